-- What an instruction answers and leaves of storage and of its subchannel, as what the machine's definitions give.
use Rattle.std.proofs.Common.{◌≡◌, refl, sym, ◌∙◌, ap, subst, ℕ, zero, suc, Bool, true, false, Option, Some, Result, Ok, Err, List, [], ◌∷◌, inl, inr}
use Rattle.std.proofs.lemmas.Option.{same_Some}
use Rattle.std.specs.Prelude.{map, slice_get, slice_index, slice_set, is_ok, OnOk}
use Rattle.zbits.specs.Layout.{image_of}
use Rattle.zbits.specs.Words.{bytes_of_words, word_at}
use Rattle.orb_block.specs.declared.Orb.{Orb}
use Rattle.schib_block.specs.declared.pmcw.Pmcw.{Pmcw}
use Rattle.scsw_irb.specs.declared.scsw.Scsw.{Scsw}
use Rattle.schib_block.specs.Modify as modify
use Rattle.schib_block.specs.Reading.{pmcw_of_words}
use Rattle.schib_block.specs.SchibTable.{schib_tables}
use Rattle.storage_keys.specs.declared.StorageFault.{StorageFault}
use Rattle.storage_keys.specs.Storage.{Contents, operand_at, operand_check, operand_stored, where_permitted, absolute_addresses}
use Rattle.chan_model.specs.declared.fault.Fault.{Fault}
use Rattle.chan_model.specs.declared.fault.Fault.TheVariants as fault
use Rattle.chan_events.specs.Replies.{Reply}
use Rattle.chan_events.specs.declared.reply.Reply.TheVariants as reply
use Rattle.chan_model.specs.declared.answer.ConditionCode.{ConditionCode}
use Rattle.scsw_irb.specs.ScswTable.{irb_tables}
use Rattle.subchannel_model.specs.declared.state.Subchannel.{Subchannel}
use Rattle.machine_model.specs.State.{State, with_sub}
use Rattle.subchannel_model.specs.Store.{pmcw_of, schib_of}
use Rattle.subchannel_model.specs.Enable.{enabling, enabling_schib, enabling_word}
use Rattle.subchannel_model.specs.Indices.{Found}
use Rattle.subchannel_model.specs.Test.{tsch_code, irb_of}
use Rattle.machine_model.specs.Results.{Outcome, SubResult, leaves, does, at_index}
use Rattle.machine_model.specs.InstructionSteps.{code_at, modify_sub, enable_sub, test_with, with_irb, with_schib, with_enabling, stores_irb, start_at, modify_at, store_answer, WhereFetched, PerformsStart, PerformsModify, PerformsEnable, performs_store, performs_test}
use Rattle.machine_model.specs.State.{lent}
use Rattle.io_step.specs.Operands.{HasOrb, HasWord, from_storage}

pub starts : (s : State) (found : Option Found) (fetched : Result (List ℕ) StorageFault) (orb : Orb) (r : Outcome) →
    HasOrb fetched (Ok orb) → r ≡ start_at s found orb → PerformsStart s found fetched r
starts s found (Ok image) orb r h e = inr (orb, h, e)
starts s found (Err f) orb r h e = absurd (cc h)

err_inj : (f g : Fault) → ◌≡◌ {A = Result Pmcw Fault} (Err f) (Err g) → f ≡ g
err_inj f g e = cc

err_orb : (f g : Fault) → ◌≡◌ {A = Result Orb Fault} (Err f) (Err g) → f ≡ g
err_orb f g e = cc

-- the operand that storage has is the one that is given
pub given-orb : (fetched : Result (List ℕ) StorageFault) (image : List ℕ) (r : Result Orb Fault) → fetched ≡ Ok image → HasOrb (Ok image) r → HasOrb fetched r
given-orb fetched image r has h = subst (λ (x : Result (List ℕ) StorageFault). HasOrb x r) (sym has) h

pub given-word : (fetched : Result (List ℕ) StorageFault) (image : List ℕ) (r : Result Pmcw Fault) → fetched ≡ Ok image → HasWord (Ok image) r → HasWord fetched r
given-word fetched image r has h = subst (λ (x : Result (List ℕ) StorageFault). HasWord x r) (sym has) h

pub starts-not : (s : State) (found : Option Found) (fetched : Result (List ℕ) StorageFault) (f : Fault) →
    HasOrb fetched (Err f) → PerformsStart s found fetched (Err f)
starts-not s found (Ok image) f h = inl (h.0, ap (λ (g : Fault). Err g) h.1)
starts-not s found (Err g) f h = ap (λ (k : Fault). Err k) (err_orb f (fault.Storage g) h)

pub modifies : (s : State) (found : Option Found) (fetched : Result (List ℕ) StorageFault) (given : Pmcw) (r : Outcome) →
    HasWord fetched (Ok given) → r ≡ modify_at s found given → PerformsModify s found fetched r
modifies s found (Ok image) given r h e = (given, h.0, inr (h.1, e))
modifies s found (Err f) given r h e = absurd (cc h)

pub modifies-not : (s : State) (found : Option Found) (fetched : Result (List ℕ) StorageFault) (f : Fault) →
    HasWord fetched (Err f) → PerformsModify s found fetched (Err f)
modifies-not s found (Ok image) f h = (h.0, h.1, inl (h.2, ap (λ (g : Fault). Err g) h.3))
modifies-not s found (Err g) f h = ap (λ (k : Fault). Err k) (err_inj f (fault.Storage g) h)

ok_inj : {A : Type 0} (x y : A) → ◌≡◌ {A = Result A Fault} (Ok x) (Ok y) → x ≡ y
ok_inj x y e = cc

-- where an instruction goes on, storage answered what it goes on with
pub permitted : {A : Type 0} (r : Result A StorageFault) (x : A) → Ok x ≡ from_storage r → r ≡ Ok x
permitted (Ok y) x e = ap (λ z. Ok z) (sym (ok_inj x y e))
permitted (Err f) x e = absurd (cc e)

err_bytes : (f g : Fault) → ◌≡◌ {A = Result (List ℕ) Fault} (Err f) (Err g) → f ≡ g
err_bytes f g e = cc

-- where storage has no operand, its fault is the refusal
pub unfetched : (r : Result (List ℕ) StorageFault) (f : Fault) (P : List ℕ → Outcome → Type 0) → Err f ≡ from_storage r → WhereFetched r P (Err f)
unfetched (Ok image) f P e = absurd (cc e)
unfetched (Err g) f P e = ap (λ (k : Fault). Err k) (err_bytes f (fault.Storage g) e)

-- an operand that is on its boundary and in storage has bytes
pub fetched : (before : Contents) (cpu address count : ℕ) (u : Unit {0}) → operand_check before cpu address count 4 ≡ Ok u →
    (image : List ℕ) × (operand_at before cpu address count 4 ≡ Ok image)
fetched before cpu address count u checked =
    let image : List ℕ = map (slice_index before.bytes) (absolute_addresses before cpu address count) in
    (image, ap (λ (x : Result (Unit {0}) StorageFault). where_permitted x image) checked)

-- an element written to the index where it stands
set_there : {A : Type 0} (xs : List A) (i : ℕ) (x : A) → slice_get xs i ≡ Some x → slice_set xs i x ≡ xs
set_there [] i x e = refl
set_there (y ∷ ys) zero x e = ap (λ z. z ∷ ys) (sym (same_Some y x e))
set_there (y ∷ ys) (suc i) x e = ap (λ zs. y ∷ zs) (set_there ys i x e)

pub tests-sub : (s : State) (before after : Contents) (cpu address index : ℕ) (old new : Subchannel) (u : Unit {0}) (r : Reply) →
    Ok u ≡ from_storage (operand_check before cpu address 64 4) →
    lent s after ≡ with_irb (lent s before) cpu address old (stores_irb (code_at tsch_code old)) →
    test_with old (code_at tsch_code old) ≡ leaves r new →
    does r (with_sub (lent s after) index new) ≡ performs_test (lent s before) cpu address (Some (record { index = index; sub = old })) (operand_check before cpu address 64 4)
tests-sub s before after cpu address index old new u r checked irb left =
    let check : operand_check before cpu address 64 4 ≡ Ok u = permitted (operand_check before cpu address 64 4) u checked in
    sym (ap (λ (x : Result (Unit {0}) StorageFault). performs_test (lent s before) cpu address (Some (record { index = index; sub = old })) x) check
    ∙ (ap (λ (t : SubResult). at_index (with_irb (lent s before) cpu address old (stores_irb (code_at tsch_code old))) index t) left
    ∙ ap (λ (x : State). does r (with_sub x index new)) (sym irb)))

-- the IRB is stored with code 0 and 1
pub irb-stored : (s : State) (before after : Contents) (cpu number address : ℕ) (sub : Subchannel) (code : ConditionCode) (image : List ℕ) (b : Bool) →
    code ≡ code_at tsch_code sub → b ≡ stores_irb code → b ≡ true → image ≡ image_of (irb_tables (irb_of sub.state)) → number ≡ cpu →
    after ≡ operand_stored before number address image →
    lent s after ≡ with_irb (lent s before) cpu address sub (stores_irb (code_at tsch_code sub))
irb-stored s before after cpu number address sub code image b tested is passes written named stored =
    let performs_store : stores_irb (code_at tsch_code sub) ≡ true = ap stores_irb (sym tested) ∙ (sym is ∙ passes) in
    ap (λ (x : Contents). lent s x)
    (stored ∙ (ap (λ (k : ℕ). operand_stored before k address image) named ∙ ap (λ (xs : List ℕ). operand_stored before cpu address xs) written))
    ∙ sym (ap (λ (x : Bool). with_irb (lent s before) cpu address sub x) performs_store)

pub irb-not-stored : (s : State) (storage : Contents) (cpu address : ℕ) (sub : Subchannel) (code : ConditionCode) (b : Bool) →
    code ≡ code_at tsch_code sub → b ≡ stores_irb code → b ≡ false →
    lent s storage ≡ with_irb (lent s storage) cpu address sub (stores_irb (code_at tsch_code sub))
irb-not-stored s storage cpu address sub code b tested is fails =
    let rests : stores_irb (code_at tsch_code sub) ≡ false = ap stores_irb (sym tested) ∙ (sym is ∙ fails) in
    sym (ap (λ (x : Bool). with_irb (lent s storage) cpu address sub x) rests)

pub stores-sub : (s : State) (before after : Contents) (cpu number address index : ℕ) (sub : Subchannel) (image : List ℕ) (u : Unit {0}) →
    slice_get s.subs index ≡ Some sub → Ok u ≡ from_storage (operand_check before cpu address 52 4) → number ≡ cpu →
    image ≡ image_of (schib_tables (schib_of sub)) → after ≡ operand_stored before number address image →
    does (reply.Status (store_answer sub) sub.state.scsw) (with_sub (lent s after) index sub)
    ≡ performs_store (lent s before) cpu address (Some (record { index = index; sub = sub })) (operand_check before cpu address 52 4)
stores-sub s before after cpu number address index sub image u there checked named written stored =
    let check : operand_check before cpu address 52 4 ≡ Ok u = permitted (operand_check before cpu address 52 4) u checked in
    let all : operand_stored before cpu address (image_of (schib_tables (schib_of sub))) ≡ after =
    ap (λ (xs : List ℕ). operand_stored before cpu address xs) (sym written)
    ∙ (ap (λ (k : ℕ). operand_stored before k address image) (sym named) ∙ sym stored) in
    let shown = reply.Status (store_answer sub) sub.state.scsw in
    sym (ap (λ (x : Result (Unit {0}) StorageFault). performs_store (lent s before) cpu address (Some (record { index = index; sub = sub })) x) check
    ∙ (ap (λ (x : Contents). does shown (lent s x)) all
    ∙ ap (λ (xs : List Subchannel). does shown (record s { storage = after; subs = xs })) (sym (set_there s.subs index sub there))))

pub enables-sub : (s : State) (before after : Contents) (cpu number subclass index : ℕ) (multipath : Bool) (old new : Subchannel) (word : Pmcw) (scsw : Scsw) (image words : List ℕ) (u : Unit {0}) (r : Reply) →
    Ok u ≡ from_storage (operand_check before cpu 0xF00 52 4) → number ≡ cpu → word ≡ enabling (pmcw_of old) subclass multipath → scsw ≡ old.state.scsw →
    image ≡ image_of (schib_tables (record { pmcw = word; scsw = scsw })) → after ≡ operand_stored before number 0xF00 image → pmcw_of_words words ≡ word → modify_sub old (pmcw_of_words words) ≡ leaves r new →
    PerformsEnable (lent s before) cpu (Some (record { index = index; sub = old })) subclass multipath (operand_at before cpu 0xF00 52 4) (does r (with_sub (lent s after) index new))
enables-sub s before after cpu number subclass index multipath old new word scsw image words u r checked named made shown written stored read left =
    let given : modify_sub old (enabling (pmcw_of old) subclass multipath) ≡ leaves r new =
    ap (modify_sub old) (sym made) ∙ (ap (modify_sub old) (sym read) ∙ left) in
    let bytes : image_of (schib_tables (enabling_schib old subclass multipath)) ≡ image =
    sym (written ∙ (ap (λ (x : Pmcw). image_of (schib_tables (record { pmcw = x; scsw = scsw }))) made
    ∙ ap (λ (x : Scsw). image_of (schib_tables (record { pmcw = enabling (pmcw_of old) subclass multipath; scsw = x }))) shown)) in
    let all : operand_stored before cpu 0xF00 (image_of (schib_tables (enabling_schib old subclass multipath))) ≡ after =
    ap (λ (xs : List ℕ). operand_stored before cpu 0xF00 xs) bytes
    ∙ (ap (λ (k : ℕ). operand_stored before k 0xF00 image) (sym named) ∙ sym stored) in
    let done : enable_sub (lent s before) cpu (record { index = index; sub = old }) subclass multipath ≡ does r (with_sub (lent s after) index new) =
    ap (λ (t : SubResult). at_index (with_schib (lent s before) cpu 0xF00 (enabling_schib old subclass multipath)) index t) given
    ∙ ap (λ (x : Contents). does r (with_sub (lent s x) index new)) all in
    let there = fetched before cpu 0xF00 52 u (permitted (operand_check before cpu 0xF00 52 4) u checked) in
    subst (λ (x : Result (List ℕ) StorageFault). PerformsEnable (lent s before) cpu (Some (record { index = index; sub = old })) subclass multipath x (does r (with_sub (lent s after) index new)))
    (sym there.1) (sym done)

-- what enabling leaves where nothing is provided
pub enables-none : (s : State) (before after : Contents) (cpu number subclass : ℕ) (multipath : Bool) (image placed : List ℕ) (old new : ℕ) →
    old ≡ word_at image 1 → new ≡ enabling_word old subclass multipath → placed ≡ bytes_of_words (new ∷ []) → number ≡ cpu →
    after ≡ operand_stored before number 0xF04 placed → lent s after ≡ with_enabling (lent s before) cpu image subclass multipath
enables-none s before after cpu number subclass multipath image placed old new there made written named stored =
    let word : new ≡ enabling_word (word_at image 1) subclass multipath = made ∙ ap (λ (w : ℕ). enabling_word w subclass multipath) there in
    let bytes : placed ≡ bytes_of_words (enabling_word (word_at image 1) subclass multipath ∷ []) = written ∙ ap (λ (w : ℕ). bytes_of_words (w ∷ [])) word in
    ap (λ (x : Contents). lent s x)
    (stored ∙ (ap (λ (k : ℕ). operand_stored before k 0xF04 placed) named ∙ ap (λ (xs : List ℕ). operand_stored before cpu 0xF04 xs) bytes))

-- a clause that holds where storage goes on holds where the instruction does
pub where-permitted : {A : Type 0} (r : Result A StorageFault) (q : Result A Fault) (T : Type 0) → is_ok q ≡ is_ok r → OnOk r T → OnOk q T
where-permitted (Ok x) (Ok y) T e t = t
where-permitted (Ok x) (Err f) T e t = tt
where-permitted (Err f) (Ok y) T e t = absurd (cc e)
where-permitted (Err f) (Err g) T e t = tt

false-not-true : (b : Bool) → b ≡ false → b ≡ true → ⊥
false-not-true true e f = absurd (cc e)
false-not-true false e f = absurd (cc f)

-- what MODIFY takes is what its test answers
pub not-allowed : (given : Pmcw) (b : Bool) → b ≡ false → (modify.IsAllowedPmcw given → b ≡ true) → ¬ modify.IsAllowedPmcw given
not-allowed given b fails passes = λ a. false-not-true b fails (passes a)
