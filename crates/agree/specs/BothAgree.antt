-- Subsystem and device agree on the program that holds the device, over wires that lose, repeat and mix signals: what a side takes of a
-- program that it has connected, and what it sends to one, is of the program that holds the device, and it offers one only where none
-- of it does; but where the unit was restarted, and did not send it Cleared since (own).
use Rattle.std.specs.Prelude.{true, IfSome, List}
use Rattle.agreement_laws.specs.Holders.{ComesOfHolder}
use Rattle.agreement_laws.specs.HolderSeen.{Holding, GoesToHolder, IsGrantToHolder, IsHolderOr}
use Rattle.agree.specs.declared.reply.WorldReply.{WorldReply}
use Rattle.agree.specs.declared.reply.WorldReply.TheVariants as reply
use Rattle.agree.specs.Histories.{WorldEntry, Throughout}
use Rattle.agree.specs.OneHolder.{holding_after, nothing_held}

abbrev pub AgreesIn : WorldReply → Holding → Type 0
AgreesIn (reply.Up side x true sent) k = ComesOfHolder (IsHolderOr k side) x.signal × IfSome sent (λ y. IsGrantToHolder k side y.signal)
AgreesIn (reply.SentDown side x) k = GoesToHolder k side x.signal
AgreesIn r k = Unit {0}

abbrev pub DoBothAgree : List WorldEntry → Type 0
DoBothAgree h = Throughout holding_after AgreesIn nothing_held h
