-- The words of an event's line ask for the event.
use Rattle.std.proofs.Common.{◌≡◌, ℕ, ◌+◌, ◌*◌, ◌/◌, ◌%◌, ◌==◌, ◌<◌, ◌≤◌, ◌∙◌, List, [], ◌∷◌, length, refl, ap, subst, arith}
use Rattle.std.specs.Prelude.{Bool, true, false, codes, nat_le, Option, Some, None, Result, Ok, ok_or, option_map, if◌then◌else◌, ◌&&◌}
use Rattle.std.specs.List.{flat_map}
use Rattle.std.specs.Result.{result_map_both}
use Rattle.std.specs.Str.{bytes_eq}
use Rattle.std.proofs.Math.Bridge.{le_prop}
use Rattle.std.proofs.lemmas.Bool.Decides.{nat_tests}
use Rattle.chan_events.specs.Events.{Event}
use Rattle.chan_events.specs.declared.event.Event.TheVariants as event
use Rattle.chan_events.specs.declared.event.Instruction.{Instruction}
use Rattle.chan_events.specs.declared.event.Instruction.TheVariants.{Ssch, Tsch, Stsch, Msch, Rsch, Hsch, Csch, Xsch, Enable}
use Rattle.chan_events.specs.declared.event.OtherInstruction.{OtherInstruction}
use Rattle.chan_events.specs.declared.event.OtherInstruction.TheVariants.{Tpi, Rchp, Stcrw, Stcps}
use Rattle.chan_events.specs.declared.event.UnitAct.{UnitAct}
use Rattle.chan_events.specs.declared.event.UnitAct.TheVariants as act
use Rattle.chan_model.specs.Reports.{DeviceAnswer, Report}
use Rattle.chan_model.specs.declared.names.Side.{Side}
use Rattle.chan_model.specs.declared.names.Side.TheVariants.{First, Second}
use Rattle.chan_model.specs.declared.report.DeviceAnswer.TheVariants.{Begins, Absorbed, Supplied, Again, Ended}
use Rattle.script_rows.specs.Actions.{action_row, executed_row, key_named, on_cpu, show_length, unit_at_side, acts_at}
use Rattle.script_rows.specs.Actions as actions
use Rattle.script_rows.specs.Words.{and_then, hex_bytes, number, number_up_to, subchannel, with_one, with_two, with_three}
use Rattle.script_rows.specs.declared.Action.{Action}
use Rattle.script_rows.specs.declared.Action.TheVariants as action
use Rattle.script_rows.specs.declared.words.LineRule.{LineRule}
use Rattle.script_rows.specs.declared.words.LineRule.TheVariants.{BadWord}
use Rattle.script_text.specs.Text.{byte_text, hex_digit}
use Rattle.storage_keys.specs.Storage.{bit_number, byte_of, key_of_byte}
use Rattle.storage_keys.specs.declared.key.Key.{Key}
use Rattle.event_lines.specs.EventLines.{bytes_word, digit_word, eight_digits, event_text, event_words, flag_word, side_word, sixteen_digits}
use Rattle.event_lines.specs.ReadLines.{event_of_row, event_of_words, words_of}
use Rattle.event_lines.specs.ReportLines as report
use Rattle.event_lines.specs.Speakable.{AreBytes, IsSpeakable, IsSpeakableAct, IsSpeakableAnswer, IsSpeakableInstruction, IsSpeakableOther, IsDoubleword, IsWord}
use Rattle.event_lines.proofs.Digits.{at_most_read, byte_read, bytes_read, long_read, one_read, subchannel_read, word_read}
use Rattle.event_lines.proofs.Wholes.{event_words_back}

-- what one, two and three words say
one_said : {A B : Type 0} (f : List ℕ → Option A) (says : A → B) (w : List ℕ) (a : A) → f w ≡ Some a → with_one f says (w ∷ []) ≡ Ok (says a)
one_said f says w a e = ap (λ o. ok_or (option_map says o) BadWord) e

two_said : {A B C : Type 0} (f : List ℕ → Option A) (g : List ℕ → Option B) (says : A → B → C) (w v : List ℕ) (a : A) (b : B)
    → f w ≡ Some a → g v ≡ Some b → with_two f g says (w ∷ v ∷ []) ≡ Ok (says a b)
two_said f g says w v a b e d =
    ap (λ o. ok_or (and_then o (λ x. option_map (says x) (g v))) BadWord) e ∙ ap (λ o. ok_or (option_map (says a) o) BadWord) d

three_said : {A B C D : Type 0} (f : List ℕ → Option A) (g : List ℕ → Option B) (h : List ℕ → Option C) (says : A → B → C → D) (w v u : List ℕ) (a : A) (b : B) (c : C)
    → f w ≡ Some a → g v ≡ Some b → h u ≡ Some c → with_three f g h says (w ∷ v ∷ u ∷ []) ≡ Ok (says a b c)
three_said f g h says w v u a b c e d i =
    ap (λ o. ok_or (and_then o (λ x. and_then (g v) (λ y. option_map (says x y) (h u)))) BadWord) e
    ∙ ap (λ o. ok_or (and_then o (λ y. option_map (says a y) (h u))) BadWord) d
    ∙ ap (λ o. ok_or (option_map (says a b) o) BadWord) i

-- a row, and a row of a CPU
row_said : (r : Result Action LineRule) (e : Event) → r ≡ Ok (action.Event e) → event_of_row (Some r) ≡ Ok e
row_said r e is = ap (λ (s : Result Action LineRule). event_of_row (Some s)) is

cpu_said : {A : Type 0} (executes : ℕ → A → Event) (found : Option ℕ) (r : Result A LineRule) (cpu : ℕ) (i : A)
    → found ≡ Some cpu → r ≡ Ok i → event_of_row (Some (on_cpu executes found r)) ≡ Ok (executes cpu i)
cpu_said {A} executes found r cpu i e is =
    ap (λ (s : Result A LineRule). event_of_row (Some (on_cpu executes found s))) is ∙ ap (λ (o : Option ℕ). event_of_row (Some (on_cpu executes o (Ok i)))) e

-- words of which each is what it should be
cpu_read : (cpu : ℕ) → cpu < 16 → number_up_to 0xF (digit_word cpu) ≡ Some cpu
cpu_read cpu lt = at_most_read 0xF cpu (digit_word cpu) (omega arith) (one_read cpu lt)

byte_up_to : (most n : ℕ) → n ≤ most → most < 256 → number_up_to most (byte_text n) ≡ Some n
byte_up_to most n le lt = at_most_read most n (byte_text n) le (byte_read n (omega arith))

flag_read : (f : Bool) → number_up_to 1 (flag_word f) ≡ Some (bit_number f)
flag_read true = refl
flag_read false = refl

flag_back : (f : Bool) → (bit_number f == 1) ≡ f
flag_back true = refl
flag_back false = refl

side_read : (s : Side) → actions.side_named (side_word s) ≡ Some s
side_read First = refl
side_read Second = refl

shown_by : (n : ℕ) → 1 ≤ n → n ≤ 64 → (if nat_le 1 n && nat_le n 0x40 then Some n else None) ≡ Some n
shown_by n some most = grind (arith, nat_tests)

shown_read : (n : ℕ) → 1 ≤ n → n ≤ 64 → show_length (eight_digits n) ≡ Some n
shown_read n some most =
    ap (λ (o : Option ℕ). and_then o (λ m. if nat_le 1 m && nat_le m 0x40 then Some m else None)) (word_read n (omega arith)) ∙ shown_by n some most

put_read : (bytes : List ℕ) → AreBytes bytes → 1 ≤ length bytes → hex_bytes (bytes_word bytes) ≡ Some bytes
put_read [] are some = absurd (omega arith)
put_read (b ∷ bs) are some = bytes_read (b ∷ bs) are some

-- a storage key
access_back : (a f r c : ℕ) → a < 16 → f ≤ 1 → r ≤ 1 → c ≤ 1 → (16 * a + 8 * f + 4 * r + 2 * c) / 16 % 16 ≡ a
access_back a f r c la lf lr lc = omega arith

fetch_back : (a f r c : ℕ) → f ≤ 1 → r ≤ 1 → c ≤ 1 → (16 * a + 8 * f + 4 * r + 2 * c) / 8 % 2 ≡ f
fetch_back a f r c lf lr lc = omega arith

reference_back : (a f r c : ℕ) → r ≤ 1 → c ≤ 1 → (16 * a + 8 * f + 4 * r + 2 * c) / 4 % 2 ≡ r
reference_back a f r c lr lc = omega arith

change_back : (a f r c : ℕ) → c ≤ 1 → (16 * a + 8 * f + 4 * r + 2 * c) / 2 % 2 ≡ c
change_back a f r c lc = omega arith

even : (a f r c : ℕ) → ((16 * a + 8 * f + 4 * r + 2 * c) % 2 == 0) ≡ true
even a f r c = grind (arith, nat_tests)

bit_le : (b : Bool) → bit_number b ≤ 1
bit_le true = omega arith
bit_le false = omega arith

abbrev key_with : (a : ℕ) (f r c : Bool) → a < 16 → Key
key_with a f r c h = record { access = a; fetch_protected = f; referenced = r; changed = c; access_fits = h }

same_access : (a b : ℕ) (f r c : Bool) (h : a < 16) (i : b < 16) → a ≡ b → key_with a f r c h ≡ key_with b f r c i
same_access a b f r c h i e =
    subst (λ (n : ℕ). (j : n < 16) → key_with a f r c h ≡ key_with n f r c j) e (λ j. ap (λ (p : a < 16). key_with a f r c p) (le_prop h j)) i

same_key : (a b : ℕ) (f g r s c d : Bool) (h : a < 16) (i : b < 16) → a ≡ b → f ≡ g → r ≡ s → c ≡ d → key_with a f r c h ≡ key_with b g s d i
same_key a b f g r s c d h i ea ef er ec =
    same_access a b f r c h i ea ∙ ap (λ (x : Bool). key_with b x r c i) ef ∙ ap (λ (x : Bool). key_with b g x c i) er ∙ ap (λ (x : Bool). key_with b g s x i) ec

key_back : (k : Key) → key_of_byte (byte_of k) ≡ k
key_back k =
    let f = bit_number k.fetch_protected in
    let r = bit_number k.referenced in
    let c = bit_number k.changed in
    let lf : bit_number k.fetch_protected ≤ 1 = bit_le k.fetch_protected in
    let lr : bit_number k.referenced ≤ 1 = bit_le k.referenced in
    let lc : bit_number k.changed ≤ 1 = bit_le k.changed in
    same_key _ k.access _ k.fetch_protected _ k.referenced _ k.changed _ k.access_fits
    (access_back k.access f r c k.access_fits lf lr lc)
    (ap (λ (n : ℕ). n == 1) (fetch_back k.access f r c lf lr lc) ∙ flag_back k.fetch_protected)
    (ap (λ (n : ℕ). n == 1) (reference_back k.access f r c lr lc) ∙ flag_back k.referenced)
    (ap (λ (n : ℕ). n == 1) (change_back k.access f r c lc) ∙ flag_back k.changed)

byte_below : (k : Key) → byte_of k ≤ 255
byte_below k =
    let h : k.access < 16 = k.access_fits in
    let lf : bit_number k.fetch_protected ≤ 1 = bit_le k.fetch_protected in
    let lr : bit_number k.referenced ≤ 1 = bit_le k.referenced in
    let lc : bit_number k.changed ≤ 1 = bit_le k.changed in
    omega arith

key_read : (k : Key) → key_named (byte_text (byte_of k)) ≡ Some k
key_read k =
    ap (λ (o : Option ℕ). and_then o (λ n. if n % 2 == 0 then Some (key_of_byte n) else None)) (byte_up_to 0xFF (byte_of k) (byte_below k) (omega arith))
    ∙ ap (λ (t : Bool). if t then Some (key_of_byte (byte_of k)) else None) (even k.access (bit_number k.fetch_protected) (bit_number k.referenced) (bit_number k.changed))
    ∙ ap (λ (x : Key). Some x) (key_back k)

-- what a CPU executes
executed : (cpu : ℕ) (i : Instruction) → cpu < 16 → IsSpeakableInstruction i → event_of_words (event_words (event.Execute cpu i)) ≡ Ok (event.Execute cpu i)
unfolding action_row executed_row
executed cpu (Ssch s a) lt is = cpu_said event.Execute _ _ cpu _ (cpu_read cpu lt) (two_said subchannel number Ssch (eight_digits s) (eight_digits a) s a (subchannel_read s is.0) (word_read a is.1))
executed cpu (Tsch s a) lt is = cpu_said event.Execute _ _ cpu _ (cpu_read cpu lt) (two_said subchannel number Tsch (eight_digits s) (eight_digits a) s a (subchannel_read s is.0) (word_read a is.1))
executed cpu (Stsch s a) lt is = cpu_said event.Execute _ _ cpu _ (cpu_read cpu lt) (two_said subchannel number Stsch (eight_digits s) (eight_digits a) s a (subchannel_read s is.0) (word_read a is.1))
executed cpu (Msch s a) lt is = cpu_said event.Execute _ _ cpu _ (cpu_read cpu lt) (two_said subchannel number Msch (eight_digits s) (eight_digits a) s a (subchannel_read s is.0) (word_read a is.1))
executed cpu (Rsch s) lt is = cpu_said event.Execute _ _ cpu _ (cpu_read cpu lt) (one_said subchannel Rsch (eight_digits s) s (subchannel_read s is))
executed cpu (Hsch s) lt is = cpu_said event.Execute _ _ cpu _ (cpu_read cpu lt) (one_said subchannel Hsch (eight_digits s) s (subchannel_read s is))
executed cpu (Csch s) lt is = cpu_said event.Execute _ _ cpu _ (cpu_read cpu lt) (one_said subchannel Csch (eight_digits s) s (subchannel_read s is))
executed cpu (Xsch s) lt is = cpu_said event.Execute _ _ cpu _ (cpu_read cpu lt) (one_said subchannel Xsch (eight_digits s) s (subchannel_read s is))
executed cpu (Enable s subclass multipath) lt is =
    cpu_said event.Execute _ _ cpu _ (cpu_read cpu lt)
    (three_said subchannel (number_up_to 7) (number_up_to 1) (λ s c d. Enable s c (d == 1)) (eight_digits s) (byte_text subclass) (flag_word multipath) s subclass (bit_number multipath)
    (subchannel_read s is.0) (byte_up_to 7 subclass is.1 (omega arith)) (flag_read multipath)
    ∙ ap (λ (m : Bool). Ok (Enable s subclass m)) (flag_back multipath))

executed_other : (cpu : ℕ) (i : OtherInstruction) → cpu < 16 → IsSpeakableOther i → event_of_words (event_words (event.ExecuteOther cpu i)) ≡ Ok (event.ExecuteOther cpu i)
unfolding action_row executed_row
executed_other cpu (Tpi mask a) lt is =
    cpu_said event.ExecuteOther _ _ cpu _ (cpu_read cpu lt) (two_said (number_up_to 0xFF) number Tpi (byte_text mask) (eight_digits a) mask a (byte_up_to 0xFF mask (omega (arith, is.0)) (omega arith)) (word_read a is.1))
executed_other cpu (Rchp path) lt is = cpu_said event.ExecuteOther _ _ cpu _ (cpu_read cpu lt) (one_said number Rchp (eight_digits path) path (word_read path is))
executed_other cpu (Stcrw a) lt is = cpu_said event.ExecuteOther _ _ cpu _ (cpu_read cpu lt) (one_said number Stcrw (eight_digits a) a (word_read a is))
executed_other cpu (Stcps a) lt is = cpu_said event.ExecuteOther _ _ cpu _ (cpu_read cpu lt) (one_said number Stcps (eight_digits a) a (word_read a is))

-- what a unit does of itself
acts_said : (u p : ℕ) (s : Side) (acts : ℕ → Side → UnitAct) → IsWord u → IsWord p
    → event_of_row (Some (acts_at acts (eight_digits u ∷ eight_digits p ∷ side_word s ∷ []))) ≡ Ok (event.Act u (acts p s))
acts_said u p s acts hu hp =
    ap (λ (r : Result (ℕ × ℕ × Side) LineRule). event_of_row (Some (result_map_both (λ at. actions.acts at.0 (acts at.1 at.2)) (λ rule. rule) r)))
    (three_said number number actions.side_named (λ unit path side. (unit, path, side)) (eight_digits u) (eight_digits p) (side_word s) u p s (word_read u hu) (word_read p hp) (side_read s))

acted : (u : ℕ) (a : UnitAct) → IsWord u → IsSpeakableAct a → event_of_words (event_words (event.Act u a)) ≡ Ok (event.Act u a)
unfolding action_row executed_row
acted u act.Leave hu is = row_said _ _ (one_said number (λ u. actions.acts u act.Leave) (eight_digits u) u (word_read u hu))
acted u (act.Ask p) hu is = row_said _ _ (two_said number number (λ u p. actions.acts u (act.Ask p)) (eight_digits u) (eight_digits p) u p (word_read u hu) (word_read p is))
acted u (act.Attention p s) hu is = acts_said u p s act.Attention hu is
acted u (act.Notice p s) hu is = acts_said u p s act.Notice hu is

-- what a device answered
never : (b : Bool) → (b && false) ≡ false
never true = refl
never false = refl

no_minus : (bytes : List ℕ) → 1 ≤ length bytes → bytes_eq (flat_map byte_text bytes) (codes "-") ≡ false
no_minus [] some = absurd (omega arith)
no_minus (b ∷ bs) some = never (hex_digit (b / 0x10 % 16) == 45)

supplied_read : (bytes : List ℕ) → AreBytes bytes → report.bytes_supplied (bytes_word bytes) ≡ Some bytes
supplied_read [] are = refl
supplied_read (b ∷ bs) are =
    ap (λ (minus : Bool). if minus then Some [] else hex_bytes (flat_map byte_text (b ∷ bs))) (no_minus (b ∷ bs) (omega arith)) ∙ bytes_read (b ∷ bs) are (omega arith)

named_side : (s : Side) → report.side_named (side_word s) ≡ Some s
named_side First = refl
named_side Second = refl

abbrev report_at : Side → DeviceAnswer → (n c q : ℕ) → Report
report_at s a n c q = record { side = s; answer = a; number = n; command = c; sequence = q }

placed : (u : ℕ) (s : Side) (a : DeviceAnswer) (n c q : ℕ) → IsWord u → IsDoubleword n → IsDoubleword c → IsDoubleword q
    → report.report_of (eight_digits u) (side_word s) (sixteen_digits n) (sixteen_digits c) (sixteen_digits q) (Ok a) ≡ Ok (event.Report u (report_at s a n c q))
placed u s a n c q hu hn hc hq =
    let side = report.side_named (side_word s) in
    let program = report.long_number (sixteen_digits n) in
    let command = report.long_number (sixteen_digits c) in
    let chunk = report.long_number (sixteen_digits q) in
    ap (λ (o : Option ℕ). ok_or (and_then o (λ x. and_then side (λ y. and_then program (λ z. and_then command (λ v. and_then chunk (λ w. Some (event.Report x (report_at y a z v w)))))))) BadWord) (word_read u hu)
    ∙ ap (λ (o : Option Side). ok_or (and_then o (λ y. and_then program (λ z. and_then command (λ v. and_then chunk (λ w. Some (event.Report u (report_at y a z v w))))))) BadWord) (named_side s)
    ∙ ap (λ (o : Option ℕ). ok_or (and_then o (λ z. and_then command (λ v. and_then chunk (λ w. Some (event.Report u (report_at s a z v w)))))) BadWord) (long_read n hn)
    ∙ ap (λ (o : Option ℕ). ok_or (and_then o (λ v. and_then chunk (λ w. Some (event.Report u (report_at s a n v w))))) BadWord) (long_read c hc)
    ∙ ap (λ (o : Option ℕ). ok_or (and_then o (λ w. Some (event.Report u (report_at s a n c w)))) BadWord) (long_read q hq)

reported_by : (u : ℕ) (s : Side) (a : DeviceAnswer) (n c q : ℕ) → IsWord u → IsDoubleword n → IsDoubleword c → IsDoubleword q → (r : Result DeviceAnswer LineRule) → r ≡ Ok a
    → report.report_of (eight_digits u) (side_word s) (sixteen_digits n) (sixteen_digits c) (sixteen_digits q) r ≡ Ok (event.Report u (report_at s a n c q))
reported_by u s a n c q hu hn hc hq r is =
    ap (report.report_of (eight_digits u) (side_word s) (sixteen_digits n) (sixteen_digits c) (sixteen_digits q)) is ∙ placed u s a n c q hu hn hc hq

answered : (u : ℕ) (s : Side) (a : DeviceAnswer) (n c q : ℕ) → IsWord u → IsSpeakableAnswer a → IsDoubleword n → IsDoubleword c → IsDoubleword q
    → event_of_words (event_words (event.Report u (report_at s a n c q))) ≡ Ok (event.Report u (report_at s a n c q))
answered u s Begins n c q hu is hn hc hq = placed u s Begins n c q hu hn hc hq
answered u s (Absorbed count) n c q hu is hn hc hq =
    reported_by u s (Absorbed count) n c q hu hn hc hq _
    (one_said (number_up_to 0xFFFF) Absorbed (eight_digits count) count (at_most_read 0xFFFF count (eight_digits count) (omega (arith, is)) (word_read count (omega (arith, is)))))
answered u s (Supplied bytes) n c q hu is hn hc hq =
    reported_by u s (Supplied bytes) n c q hu hn hc hq _ (one_said report.bytes_supplied Supplied (bytes_word bytes) bytes (supplied_read bytes is))
answered u s Again n c q hu is hn hc hq = placed u s Again n c q hu hn hc hq
answered u s (Ended status false) n c q hu is hn hc hq =
    reported_by u s (Ended status false) n c q hu hn hc hq _
    (one_said (number_up_to 0xFF) (λ byte. report.ended byte false) (byte_text status.0) status.0 (byte_up_to 0xFF status.0 (omega (arith, is)) (omega arith)))
answered u s (Ended status true) n c q hu is hn hc hq =
    reported_by u s (Ended status true) n c q hu hn hc hq _
    (two_said (number_up_to 0xFF) report.more_named report.ended (byte_text status.0) (codes "more") status.0 true (byte_up_to 0xFF status.0 (omega (arith, is)) (omega arith)) refl)

-- each event that a line can ask for
said : (e : Event) → IsSpeakable e → event_of_words (event_words e) ≡ Ok e
unfolding action_row executed_row
said (event.Put a bytes) is =
    row_said _ _ (two_said number hex_bytes (λ a bytes. action.Event (event.Put a bytes)) (eight_digits a) (bytes_word bytes) a bytes (word_read a is.0) (put_read bytes is.1.0 is.1.1))
said (event.SetKey a key) is = row_said _ _ (two_said number key_named (λ a key. action.Event (event.SetKey a key)) (eight_digits a) (byte_text (byte_of key)) a key (word_read a is) (key_read key))
said (event.SetPrefix cpu a) is =
    row_said _ _ (two_said (number_up_to 0xF) number (λ cpu a. action.Event (event.SetPrefix cpu a)) (digit_word cpu) (eight_digits a) cpu a (cpu_read cpu is.0) (word_read a is.1))
said (event.Show a count) is =
    row_said _ _ (two_said number show_length (λ a count. action.Event (event.Show a count)) (eight_digits a) (eight_digits count) a count (word_read a is.0) (shown_read count is.1.0 is.1.1))
said (event.Execute cpu i) is = executed cpu i is.0 is.1
said (event.ExecuteOther cpu i) is = executed_other cpu i is.0 is.1
said (event.Choose s) is = row_said _ _ (one_said subchannel (λ s. action.Event (event.Choose s)) (eight_digits s) s (subchannel_read s is))
said (event.Up s p) is = row_said _ _ (two_said subchannel number (λ s p. action.Event (event.Up s p)) (eight_digits s) (eight_digits p) s p (subchannel_read s is.0) (word_read p is.1))
said (event.Down s p) is = row_said _ _ (two_said subchannel number (λ s p. action.Event (event.Down s p)) (eight_digits s) (eight_digits p) s p (subchannel_read s is.0) (word_read p is.1))
said (event.Report u r) is = answered u r.side r.answer r.number r.command r.sequence is.0 is.1.answer is.1.number is.1.command is.1.sequence
said (event.Act u a) is = acted u a is.0 is.1
said (event.Restart u) is = row_said _ _ (one_said number (λ u. action.Event (event.Restart u)) (eight_digits u) u (word_read u is))
said (event.PathDown c) is = row_said _ _ (one_said number (λ c. action.Event (event.PathDown c)) (eight_digits c) c (word_read c is))
said (event.PathUp c) is = row_said _ _ (one_said number (λ c. action.Event (event.PathUp c)) (eight_digits c) c (word_read c is))
said (event.PathReset c) is = row_said _ _ (one_said number (λ c. action.Event (event.PathReset c)) (eight_digits c) c (word_read c is))
said event.SystemReset is = refl

-- its line asks for it
pub read_back : (e : Event) → IsSpeakable e → event_of_words (words_of (event_text e)) ≡ Ok e
read_back e is = ap event_of_words (event_words_back e) ∙ said e is
