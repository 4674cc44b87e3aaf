-- No word of an event's line has a space.
use Rattle.std.proofs.Common.{◌≡◌, ℕ, ◌+◌, ◌==◌, List, [], ◌∷◌, ◌≤◌, refl, arith}
use Rattle.std.specs.Prelude.{Bool, true, false, codes, nat_lt, if◌then◌else◌}
use Rattle.std.specs.List.{flat_map}
use Rattle.std.proofs.lemmas.Bool.Decides.{nat_tests}
use Rattle.script_text.specs.Text.{byte_text, hex_digit}
use Rattle.chan_events.specs.Events.{Event}
use Rattle.chan_events.specs.declared.event.Event.TheVariants as event
use Rattle.chan_events.specs.declared.event.Instruction.{Instruction}
use Rattle.chan_events.specs.declared.event.Instruction.TheVariants.{Ssch, Tsch, Stsch, Msch, Rsch, Hsch, Csch, Xsch, Enable}
use Rattle.chan_events.specs.declared.event.OtherInstruction.{OtherInstruction}
use Rattle.chan_events.specs.declared.event.OtherInstruction.TheVariants.{Tpi, Rchp, Stcrw, Stcps}
use Rattle.chan_events.specs.declared.event.UnitAct.TheVariants as act
use Rattle.chan_model.specs.Reports.{DeviceAnswer}
use Rattle.chan_model.specs.declared.names.Side.{Side}
use Rattle.chan_model.specs.declared.names.Side.TheVariants.{First, Second}
use Rattle.chan_model.specs.declared.report.DeviceAnswer.TheVariants.{Begins, Absorbed, Supplied, Again, Ended}
use Rattle.storage_keys.specs.Storage.{byte_of}
use Rattle.event_lines.specs.EventLines.{answer_words, bytes_word, digit_word, eight_digits, event_text, event_words, flag_word, instruction_words, other_words, side_word, sixteen_digits}
use Rattle.event_lines.specs.ReadLines.{words_of}
use Rattle.event_lines.proofs.Blanks.{AllWhole, IsPlain, Whole, words_back}

-- a name, whose letters are known
abbrev is_whole : List ℕ → Bool
is_whole [] = true
is_whole (b ∷ bs) = if b == 32 then false else (if b == 10 then false else is_whole bs)

name_by : {P Q : Type 0} (is later found : Bool) → is ≡ found → (later ≡ true → P) → (is ≡ false → P → Q) → (if found then false else later) ≡ true → Q
name_by is later true e p q h = absurd (cc h)
name_by is later false e p q h = q e (p h)

name : (w : List ℕ) → is_whole w ≡ true → Whole w
name [] h = tt
name (b ∷ bs) h =
    name_by (b == 32) (if b == 10 then false else is_whole bs) (b == 32) refl
    (name_by {Q = ((b == 10) ≡ false) × Whole bs} (b == 10) (is_whole bs) (b == 10) refl (name bs) (λ feed rest. (feed, rest)))
    (λ space rest. (record { space = space; feed = rest.0 }, rest.1)) h

-- digits
above : (least n d : ℕ) → n ≤ least → ((least + 1 + d) == n) ≡ false
above least n d le = grind (arith, nat_tests)

digit_by : (d n : ℕ) (small : Bool) → n ≤ 32 → ((if small then 48 + d else 55 + d) == n) ≡ false
digit_by d n true le = above 47 n d (omega arith)
digit_by d n false le = above 54 n d (omega arith)

digit : (d : ℕ) → IsPlain (hex_digit d)
digit d = record { space = digit_by d 32 (nat_lt d 10) (omega arith); feed = digit_by d 10 (nat_lt d 10) (omega arith) }

one : (n : ℕ) → Whole (digit_word n)
one n = (digit n, tt)

two : (n : ℕ) → Whole (byte_text n)
two n = (digit _, (digit _, tt))

eight : (n : ℕ) → Whole (eight_digits n)
eight n = (digit _, (digit _, (digit _, (digit _, (digit _, (digit _, (digit _, (digit _, tt))))))))

sixteen : (n : ℕ) → Whole (sixteen_digits n)
sixteen n = (
  digit _,
  (
    digit _,
    (
      digit _,
      (
        digit _,
        (
          digit _,
          (
            digit _,
            (
              digit _,
              (
                digit _,
                (digit _, (digit _, (digit _, (digit _, (digit _, (digit _, (digit _, (digit _, tt)))))))),
              ),
            ),
          ),
        ),
      ),
    ),
  ),
)

digits : (bytes : List ℕ) → Whole (flat_map byte_text bytes)
digits [] = tt
digits (byte ∷ bytes) = (digit _, (digit _, digits bytes))

bytes_whole : (bytes : List ℕ) → Whole (bytes_word bytes)
bytes_whole [] = name (codes "-") refl
bytes_whole (byte ∷ bytes) = digits (byte ∷ bytes)

side : (s : Side) → Whole (side_word s)
side First = name (codes "0") refl
side Second = name (codes "1") refl

flag : (f : Bool) → Whole (flag_word f)
flag true = name (codes "1") refl
flag false = name (codes "0") refl

instruction_whole : (i : Instruction) → AllWhole (instruction_words i)
instruction_whole (Ssch s a) = (name (codes "ssch") refl, (eight s, (eight a, tt)))
instruction_whole (Tsch s a) = (name (codes "tsch") refl, (eight s, (eight a, tt)))
instruction_whole (Stsch s a) = (name (codes "stsch") refl, (eight s, (eight a, tt)))
instruction_whole (Msch s a) = (name (codes "msch") refl, (eight s, (eight a, tt)))
instruction_whole (Rsch s) = (name (codes "rsch") refl, (eight s, tt))
instruction_whole (Hsch s) = (name (codes "hsch") refl, (eight s, tt))
instruction_whole (Csch s) = (name (codes "csch") refl, (eight s, tt))
instruction_whole (Xsch s) = (name (codes "xsch") refl, (eight s, tt))
instruction_whole (Enable s c m) = (name (codes "enable") refl, (eight s, (two c, (flag m, tt))))

other_whole : (i : OtherInstruction) → AllWhole (other_words i)
other_whole (Tpi mask a) = (name (codes "tpi") refl, (two mask, (eight a, tt)))
other_whole (Rchp path) = (name (codes "rchp") refl, (eight path, tt))
other_whole (Stcrw a) = (name (codes "stcrw") refl, (eight a, tt))
other_whole (Stcps a) = (name (codes "stcps") refl, (eight a, tt))

answer_whole : (a : DeviceAnswer) → AllWhole (answer_words a)
answer_whole Begins = (name (codes "begins") refl, tt)
answer_whole (Absorbed count) = (name (codes "absorbed") refl, (eight count, tt))
answer_whole (Supplied bytes) = (name (codes "supplied") refl, (bytes_whole bytes, tt))
answer_whole Again = (name (codes "again") refl, tt)
answer_whole (Ended status false) = (name (codes "ended") refl, (two status.0, tt))
answer_whole (Ended status true) = (name (codes "ended") refl, (two status.0, (name (codes "more") refl, tt)))

-- the words of the line are those that are words_back by spaces
pub event_words_back : (e : Event) → words_of (event_text e) ≡ event_words e
event_words_back (event.Put a bytes) = words_back (codes "put") (eight_digits a ∷ bytes_word bytes ∷ []) (name (codes "put") refl) (eight a, (bytes_whole bytes, tt))
event_words_back (event.SetKey a key) = words_back (codes "key") (eight_digits a ∷ byte_text (byte_of key) ∷ []) (name (codes "key") refl) (eight a, (two (byte_of key), tt))
event_words_back (event.SetPrefix cpu a) = words_back (codes "prefix") (digit_word cpu ∷ eight_digits a ∷ []) (name (codes "prefix") refl) (one cpu, (eight a, tt))
event_words_back (event.Show a n) = words_back (codes "show") (eight_digits a ∷ eight_digits n ∷ []) (name (codes "show") refl) (eight a, (eight n, tt))
event_words_back (event.Execute cpu i) = words_back (codes "cpu") (digit_word cpu ∷ instruction_words i) (name (codes "cpu") refl) (one cpu, instruction_whole i)
event_words_back (event.ExecuteOther cpu i) = words_back (codes "cpu") (digit_word cpu ∷ other_words i) (name (codes "cpu") refl) (one cpu, other_whole i)
event_words_back (event.Choose s) = words_back (codes "choose") (eight_digits s ∷ []) (name (codes "choose") refl) (eight s, tt)
event_words_back (event.Up s p) = words_back (codes "up") (eight_digits s ∷ eight_digits p ∷ []) (name (codes "up") refl) (eight s, (eight p, tt))
event_words_back (event.Down s p) = words_back (codes "down") (eight_digits s ∷ eight_digits p ∷ []) (name (codes "down") refl) (eight s, (eight p, tt))
event_words_back (event.Report u r) =
    words_back (codes "report") (eight_digits u ∷ side_word r.side ∷ sixteen_digits r.number ∷ sixteen_digits r.command ∷ sixteen_digits r.sequence ∷ answer_words r.answer) (name (codes "report") refl)
    (eight u, (side r.side, (sixteen r.number, (sixteen r.command, (sixteen r.sequence, answer_whole r.answer)))))
event_words_back (event.Act u act.Leave) = words_back (codes "leave") (eight_digits u ∷ []) (name (codes "leave") refl) (eight u, tt)
event_words_back (event.Act u (act.Ask p)) = words_back (codes "ask") (eight_digits u ∷ eight_digits p ∷ []) (name (codes "ask") refl) (eight u, (eight p, tt))
event_words_back (event.Act u (act.Attention p s)) = words_back (codes "attn") (eight_digits u ∷ eight_digits p ∷ side_word s ∷ []) (name (codes "attn") refl) (eight u, (eight p, (side s, tt)))
event_words_back (event.Act u (act.Notice p s)) = words_back (codes "notice") (eight_digits u ∷ eight_digits p ∷ side_word s ∷ []) (name (codes "notice") refl) (eight u, (eight p, (side s, tt)))
event_words_back (event.Restart u) = words_back (codes "restart") (eight_digits u ∷ []) (name (codes "restart") refl) (eight u, tt)
event_words_back (event.PathDown c) = words_back (codes "pathdown") (eight_digits c ∷ []) (name (codes "pathdown") refl) (eight c, tt)
event_words_back (event.PathUp c) = words_back (codes "pathup") (eight_digits c ∷ []) (name (codes "pathup") refl) (eight c, tt)
event_words_back (event.PathReset c) = words_back (codes "pathreset") (eight_digits c ∷ []) (name (codes "pathreset") refl) (eight c, tt)
event_words_back event.SystemReset = words_back (codes "sysreset") [] (name (codes "sysreset") refl) tt
