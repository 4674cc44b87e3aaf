-- An engine is engaged where its entry names a subchannel.
use Rattle.std.proofs.Common.{◌≡◌, refl, sym, ◌∙◌, ℕ, ◌<◌, zero, suc, Bool, true, false, ◌||◌, Option, None, Some, List, [], ◌∷◌, is_some}
use Rattle.std.specs.List.{list_any}
use Rattle.std.specs.Prelude.{slice_get}
use Rattle.std.proofs.lemmas.Map.Keys.{any_passes_from_place}
use Rattle.chan_model.specs.ResetCauses.{engaged_path, is_path}
use Rattle.subchannel_model.specs.declared.state.Subchannel.{Subchannel}
use Rattle.subchannel_model.specs.Choosing.{engages, any_engages, engages_at}
use Rattle.lookup.specs.Tables.{Serves, server, engaged, chpid_at}

-- a subchannel engages an engine where it is that of the path that it engages
engages-by : (sub : Subchannel) (path : Option ℕ) (c : ℕ) → engages_at sub path c ≡ is_path (chpid_at sub path) c
engages-by sub None c = refl
engages-by sub (Some path) c = refl

pub engages-is : (sub : Subchannel) (c : ℕ) → engages c sub ≡ is_path (engaged sub) c
engages-is sub c = engages-by sub (engaged_path sub.state.hold.phase) c

-- where some element passes a test, one stands at an index
record IsPassed {A : Type 0} (test : A → Bool) (xs : List A) : Type 0 where
  index : ℕ
  item : A
  there : slice_get xs index ≡ Some item
  passes : test item ≡ true

any-first : {A : Type 0} (test : A → Bool) (x : A) (xs : List A) (b : Bool) → test x ≡ b → (b || list_any test xs) ≡ true →
    (list_any test xs ≡ true → IsPassed test xs) → IsPassed test (x ∷ xs)
any-first test x xs true t e more = record { index = zero; item = x; there = refl; passes = t }
any-first test x xs false t e more = let k = more e in record { index = suc k.index; item = k.item; there = k.there; passes = k.passes }

any-passed : {A : Type 0} (test : A → Bool) (xs : List A) → list_any test xs ≡ true → IsPassed test xs
any-passed test [] e = absurd (cc e)
any-passed test (x ∷ xs) e = any-first test x xs (test x) refl e (any-passed test xs)

-- the entry names a subchannel where some subchannel engages the engine
named-any : (table : List (Option ℕ)) (subs : List Subchannel) (c : ℕ) (entry : Option ℕ) (any : Bool) → c < 0x100 → Serves table subs →
    server table c ≡ entry → any_engages subs c ≡ any → is_some entry ≡ any
named-any table subs c None false small k e f = refl
named-any table subs c (Some index) true small k e f = refl
named-any table subs c None true small k e f =
    let p = any-passed (engages c) subs f in absurd (cc (sym e ∙ k.named c p.index p.item small p.there p.passes))
named-any table subs c (Some index) false small k e f =
    let p = k.engaged c index small e in absurd (cc (sym (any_passes_from_place (engages c) subs index p.0 p.1 p.2) ∙ f))

pub served-any : (table : List (Option ℕ)) (subs : List Subchannel) (c : ℕ) → c < 0x100 → Serves table subs → is_some (server table c) ≡ any_engages subs c
served-any table subs c small k = named-any table subs c (server table c) (any_engages subs c) small k refl refl
