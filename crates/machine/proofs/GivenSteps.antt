-- An instruction whose operand is given by value, as the event that it is wherever storage has the operand.
use Rattle.std.proofs.Common.{◌≡◌, sym, ◌∙◌, ap, subst, ℕ, None, Some, Result, Ok, Err, List, Bool}
use Rattle.storage_keys.specs.Storage.{Contents}
use Rattle.channel_config.specs.declared.names.SubchannelId.{SubchannelId}
use Rattle.channel_config.specs.SubchannelWords.{subchannel_named}
use Rattle.chan_events.specs.declared.event.Event.TheVariants as event
use Rattle.chan_events.specs.Replies.{Reply}
use Rattle.chan_model.specs.declared.fault.Fault.{Fault}
use Rattle.chan_model.specs.declared.fault.Fault.TheVariants as fault
use Rattle.channel_reports.specs.Queue.{WaitingReports}
use Rattle.interruptions.specs.Requests.{WaitingRequests}
use Rattle.io_step.specs.declared.by_value.Answered.{Answered}
use Rattle.io_step.specs.declared.by_value.ByValue.{ByValue}
use Rattle.io_step.specs.declared.by_value.OtherByValue.{OtherByValue}
use Rattle.io_step.specs.Executing.{Executed_absent}
use Rattle.io_step.specs.GivenOperands.{instruction_at, other_at, outcome, storage_after, with_reply}
use Rattle.io_step.specs.Performing.{Performed, lent}
use Rattle.io_step.proofs.Given.{word-of}
use Rattle.subchannel_model.specs.declared.state.Subchannel.{Subchannel}
use Rattle.subchannel_model.specs.Indices.{index_in}
use Rattle.machine_model.specs.OtherSteps.{answers, lent_whole, other_result}
use Rattle.machine_model.specs.State.{State, with_sub}
use Rattle.machine_model.specs.Steps.{Performs}
use Rattle.signal_step.specs.Giving.{posted_since}
use Rattle.machine_model.specs.State as machine
use Rattle.machine.proofs.Lifting.{AreAlike, StandsAt, executes, executes-absent, executes-unnamed, other-performs}

-- the subchannel named has the index
pub given-performs : (s : State) (storage : Contents) (cpu word address index : ℕ) (i : ByValue) (id : SubchannelId) (sub new : Subchannel) (left waiting : WaitingRequests)
    (r : Result Answered Fault) → subchannel_named s.sets word ≡ Some id → index_in id s.subs ≡ Some index → StandsAt s.subs index sub →
    Performed (lent storage (Some sub) s.requests) cpu (instruction_at i word address) (outcome r) (lent (storage_after storage cpu address r) (Some new) left) →
    waiting ≡ posted_since sub.state.serials.made new left →
    Performs (machine.lent s storage) (event.Execute cpu (instruction_at i word address)) (outcome r)
    (record (with_sub (machine.lent s (storage_after storage cpu address r)) index new) { requests = waiting })
given-performs s storage cpu word address index i id sub new left waiting r named placed stands g posted =
    executes (machine.lent s storage) cpu index (instruction_at i word address) id sub new (storage_after storage cpu address r) left waiting (outcome r)
    (ap (subchannel_named s.sets) (word-of i word address) ∙ named) placed stands g posted

-- it is not provided
pub given-absent : (s : State) (storage : Contents) (cpu word address : ℕ) (i : ByValue) (id : SubchannelId) (a : Result Reply Fault) (r : Result Answered Fault) →
    subchannel_named s.sets word ≡ Some id → index_in id s.subs ≡ None → outcome r ≡ a → storage_after storage cpu address r ≡ storage →
    Executed_absent storage cpu (instruction_at i word address) a storage →
    Performs (machine.lent s storage) (event.Execute cpu (instruction_at i word address)) (outcome r) (machine.lent s (storage_after storage cpu address r))
given-absent s storage cpu word address i id a r named placed same after g =
    subst (λ (x : Result Reply Fault). Performs (machine.lent s storage) (event.Execute cpu (instruction_at i word address)) x (machine.lent s (storage_after storage cpu address r))) (sym same)
    (subst (λ (x : Contents). Performs (machine.lent s storage) (event.Execute cpu (instruction_at i word address)) a (machine.lent s x)) (sym after)
    (executes-absent (machine.lent s storage) cpu (instruction_at i word address) id storage a (ap (subchannel_named s.sets) (word-of i word address) ∙ named) placed g))

-- the word names no set
pub given-unnamed : (s : State) (storage : Contents) (cpu word address : ℕ) (i : ByValue) → subchannel_named s.sets word ≡ None →
    Performs (machine.lent s storage) (event.Execute cpu (instruction_at i word address)) (Err fault.Operand) (machine.lent s storage)
given-unnamed s storage cpu word address i named =
    executes-unnamed (machine.lent s storage) cpu (instruction_at i word address) (ap (subchannel_named s.sets) (word-of i word address) ∙ named)

-- an instruction that names no subchannel
pub given-other : (s : State) (storage : Contents) (cpu address : ℕ) (i : OtherByValue) (engaged : List Bool) (r : Reply) (waiting : WaitingRequests) (queue : WaitingReports) →
    AreAlike s.subs engaged (other_at i address) →
    other_result (lent_whole storage s.requests s.reports) s.up engaged cpu (other_at i address) ≡ answers r (lent_whole (with_reply storage cpu address r) waiting queue) →
    Performs (machine.lent s storage) (event.ExecuteOther cpu (other_at i address)) (Ok r)
    (record s { storage = with_reply storage cpu address r; requests = waiting; reports = queue })
given-other s storage cpu address i engaged r waiting queue alike g =
    other-performs (machine.lent s storage) cpu (other_at i address) engaged (Ok r) (with_reply storage cpu address r) waiting queue alike g
