-- What is looked up: the index of a name, and that an index is within the list.
use Rattle.std.proofs.Common.{◌≡◌, refl, ◌∙◌, ap, ℕ, ◌+◌, ◌*◌, ◌/◌, ◌%◌, ◌<◌, nat_lt, suc, Bool, true, false, Option, None, Some, List, [], ◌∷◌, length, if◌then◌else◌, arith}
use Rattle.std.specs.Prelude.{slice_get, IfSome}
use Rattle.std.proofs.lemmas.Bool.{ltb-true}
use Rattle.subchannel_model.specs.declared.state.Subchannel.{Subchannel}
use Rattle.subchannel_model.specs.Indices.{first_index, index_in, one_later}
use Rattle.channel_config.specs.declared.names.SubchannelId.{SubchannelId}
use Rattle.lookup.specs.Tables.{Tables, Fits, id_at, name_index}

later-within : (o : Option ℕ) (n : ℕ) → IfSome o (λ p. p < n) → IfSome (one_later o) (λ p. p < suc n)
later-within None n h = tt
later-within (Some p) n h = omega (arith, h)

here-within : (b : Bool) (o : Option ℕ) (n : ℕ) → IfSome o (λ p. p < suc n) → IfSome (if b then Some 0 else o) (λ p. p < suc n)
here-within true o n h = omega arith
here-within false o n h = h

pub index-within : (test : Subchannel → Bool) (subs : List Subchannel) → IfSome (first_index test subs) (λ p. p < length subs)
index-within test [] = tt
index-within test (x ∷ xs) = here-within (test x) (one_later (first_index test xs)) (length xs) (later-within (first_index test xs) (length xs) (index-within test xs))

-- the entry of a name is its place
named-at : (set number key : ℕ) (small : Bool) → nat_lt number 0x100 ≡ small → Some key ≡ (if small then Some (set * 0x100 + number) else None) → id_at key ≡ record { set = set; number = number }
named-at set number key true e h =
    let within : number < 0x100 = ltb-true number 0x100 e in
    let is : key ≡ set * 0x100 + number = cc h in
    let s : key / 0x100 ≡ set = omega (arith, is, within) in
    let n : key % 0x100 ≡ number = omega (arith, is, within) in
    ap (λ (k : ℕ). record { set = k; number = key % 0x100 }) s ∙ ap (λ (k : ℕ). record { set = set; number = k }) n
named-at set number key false e h = absurd (cc h)

pub named-index : (t : Tables) (subs : List Subchannel) (id : SubchannelId) (key : ℕ) (index : Option ℕ) → Fits t subs → Some key ≡ name_index id → slice_get t.named key ≡ Some index →
    index ≡ index_in id subs
named-index t subs id key index f is there = f.named key index there ∙ ap (λ (n : SubchannelId). index_in n subs) (named-at id.set id.number key (nat_lt id.number 0x100) refl is)
