-- What each step leaves of storage is what its entry tells.
use Rattle.std.proofs.Common.{◌≡◌, refl, sym, ◌∙◌, ap, subst, arith, ℕ, ◌+◌, ◌*◌, ◌==◌, Bool, true, false, Option, None, Some, List, [], ◌∷◌, length, inl, inr, length-append}
use Rattle.std.specs.Prelude.{if◌then◌else◌, map, ◌⊎◌, take}
use Rattle.zbits.specs.Layout.{image_of, word_of}
use Rattle.byteorder.specs.Endian.{big_bytes}
use Rattle.zbits.specs.Words.{bytes_of_words, word_at}
use Rattle.scsw_irb.specs.declared.irb.Irb.{Irb}
use Rattle.scsw_irb.specs.declared.code.IntCode.{IntCode}
use Rattle.scsw_irb.specs.CodeTable.{code_tables}
use Rattle.scsw_irb.specs.ScswTable.{irb_tables}
use Rattle.schib_block.specs.declared.schib.Schib.{Schib}
use Rattle.schib_block.specs.SchibTable.{schib_tables}
use Rattle.storage_keys.specs.Storage.{Contents}
use Rattle.chan_events.specs.Events.{Event}
use Rattle.chan_events.specs.declared.event.Event.TheVariants as event
use Rattle.chan_events.specs.declared.event.Instruction.{Instruction}
use Rattle.chan_events.specs.declared.event.Instruction.TheVariants as instruction
use Rattle.chan_events.specs.Replies.{Reply}
use Rattle.chan_events.specs.declared.reply.Reply.TheVariants as reply
use Rattle.channel_reports.specs.Queue.{oldest}
use Rattle.chan_events.specs.ReportWords.{report_word}
use Rattle.subchannel_model.specs.declared.state.Subchannel.{Subchannel}
use Rattle.subchannel_model.specs.Indices.{Found}
use Rattle.subchannel_model.specs.Store.{schib_of}
use Rattle.subchannel_model.specs.Enable.{enabling_schib, enabling_word}
use Rattle.subchannel_model.specs.Test.{irb_of}
use Rattle.machine_model.specs.State.{State}
use Rattle.machine_model.specs.OtherSteps.{code_words, code_stored}
use Rattle.machine_model.specs.Steps.{Step}
use Rattle.run_laws.specs.StorageTold.{IsOperandStored, StoresBy}
use Rattle.chan_model.specs.declared.answer.Answer.{Answer}
use Rattle.interruptions.specs.Requests.{answer}
use Rattle.machine_model.specs.InstructionSteps.{stores_irb, with_irb}
use Rattle.step_laws.proofs.Executed.{IsDone, IsStorageLeft, code_for}
use Rattle.step_laws.proofs.Results as turn
use Rattle.step_laws.proofs.Results.{ResultOf, HasResult, step-turn}

-- how many bytes are stored
length-words : (ws : List ℕ) → length (bytes_of_words ws) ≡ 4 * length ws
length-words [] = refl
length-words (w ∷ ws) =
    let more : length (bytes_of_words ws) ≡ 4 * length ws = length-words ws in
    length-append (big_bytes 4 w) (bytes_of_words ws) ∙ ap (λ (n : ℕ). 4 + n) more ∙ (omega arith)

length-irb : (irb : Irb) → length (image_of (irb_tables irb)) ≡ 64
length-irb irb = length-words (map word_of (irb_tables irb))

length-schib : (schib : Schib) → length (image_of (schib_tables schib)) ≡ 52
length-schib schib = length-words (map word_of (schib_tables schib))

-- TEST and STORE store where they show a status word
test-stores : (s : State) (cpu word address : ℕ) (sub : Subchannel) (b : Bool) (a : Answer) (storage : Contents) → storage ≡ (with_irb s cpu address sub b).storage →
    StoresBy s.storage (event.Execute cpu (instruction.Tsch word address)) (if b then reply.Status a sub.state.scsw else reply.Code a) storage
test-stores s cpu word address sub true a storage e = (image_of (irb_tables (irb_of sub.state)), length-irb (irb_of sub.state), e)
test-stores s cpu word address sub false a storage e = e

executes-stores : (s : State) (cpu : ℕ) (i : Instruction) (q : Option Found) (r : Reply) (new : State) → IsStorageLeft s cpu i q new.storage → IsDone s i q r new →
    StoresBy s.storage (event.Execute cpu i) r new.storage
executes-stores s cpu (instruction.Tsch word address) None r new left k =
    subst (λ (x : Reply). StoresBy s.storage (event.Execute cpu (instruction.Tsch word address)) x new.storage) (sym k.replies) left
executes-stores s cpu (instruction.Tsch word address) (Some f) r new left k =
    subst (λ (x : Reply). StoresBy s.storage (event.Execute cpu (instruction.Tsch word address)) x new.storage) (sym k.replies)
    (test-stores s cpu word address f.sub (stores_irb (code_for (instruction.Tsch word address) f.sub)) _ new.storage left)
executes-stores s cpu (instruction.Stsch word address) None r new left k =
    subst (λ (x : Reply). StoresBy s.storage (event.Execute cpu (instruction.Stsch word address)) x new.storage) (sym k.replies) left
executes-stores s cpu (instruction.Stsch word address) (Some f) r new left k =
    subst (λ (x : Reply). StoresBy s.storage (event.Execute cpu (instruction.Stsch word address)) x new.storage) (sym k.replies)
    (image_of (schib_tables (schib_of f.sub)), length-schib (schib_of f.sub), left)
executes-stores s cpu (instruction.Enable word subclass multipath) None r new left k =
    let words : List ℕ = enabling_word (word_at left.0 1) subclass multipath ∷ [] in inr (bytes_of_words words, length-words words, left.1)
executes-stores s cpu (instruction.Enable word subclass multipath) (Some f) r new left k =
    inl (image_of (schib_tables (enabling_schib f.sub subclass multipath)), length-schib (enabling_schib f.sub subclass multipath), left)
executes-stores s cpu i q r new left k = left

-- instructions that name no subchannel
length-code : (address : ℕ) (code : IntCode) (z : Bool) → (address == 0) ≡ z → length (bytes_of_words (code_words address code)) ≡ (if z then 12 else 8)
length-code address code true e =
    length-words (code_words address code) ∙ ap (λ (b : Bool). 4 * length (if b then map word_of (code_tables code) else take 2 (map word_of (code_tables code)))) e
length-code address code false e =
    length-words (code_words address code) ∙ ap (λ (b : Bool). 4 * length (if b then map word_of (code_tables code) else take 2 (map word_of (code_tables code)))) e

tpi-stores : (storage : Contents) (cpu address : ℕ) (found : Option IntCode) → (code_stored storage cpu address found ≡ storage)
    ⊎ IsOperandStored storage cpu (if address == 0 then 184 else address) (if address == 0 then 12 else 8) (code_stored storage cpu address found)
tpi-stores storage cpu address None = inl refl
tpi-stores storage cpu address (Some code) = inr (bytes_of_words (code_words address code), length-code address code (address == 0) refl, refl)

turn-stores : (s : State) (e : Event) (r : Reply) (new : State) → ResultOf s e r new → StoresBy s.storage e r new.storage
turn-stores s _ _ _ (turn.Puts address bytes storage e) = e
turn-stores s _ _ _ (turn.SetsKey address key storage e) = e
turn-stores s _ _ _ (turn.SetsPrefix cpu address storage e) = e
turn-stores s _ _ _ (turn.Shows address count bytes e) = (e, refl)
turn-stores s _ _ _ (turn.Executes cpu i id q r storage subs n e blocks left done) = executes-stores s cpu i q r (record s { storage = storage; subs = subs }) left done
turn-stores s _ _ _ (turn.Interrupts cpu mask address) = tpi-stores s.storage cpu address (answer s.requests mask)
turn-stores s _ _ _ (turn.StoresReport cpu address) =
    let words : List ℕ = report_word (oldest s.reports) ∷ [] in (bytes_of_words words, length-words words, refl)
turn-stores s _ _ _ (turn.Meets word path place sub t named there ok) = tt
turn-stores s _ _ _ t = refl

pub step-stores : (s : State) (e : Event) (r : Reply) (new : State) → Step s e r new → StoresBy s.storage e r new.storage
step-stores s e r new step =
    let is : HasResult s e r new = step-turn s e r new step in subst (λ (x : State). StoresBy s.storage e r x.storage) (sym is.settles) (turn-stores s e r is.left is.turn)
