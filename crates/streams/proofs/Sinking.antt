-- Two texts put one after the other.
use Rattle.std.proofs.Common.{◌≡◌, ℕ, ◌+◌, ◌<◌, zero, suc, Bool, true, false, List, [], ◌∷◌, ◌++◌, take, drop, length, ◌-◌, refl, sym, ap, ◌∙◌, subst, arith, length-append}
use Rattle.std.proofs.Math.Seq.{take-append-add}
use Rattle.std.proofs.lemmas.List.{take-append-drop, take_rest}
use Rattle.std.proofs.KnownBytes.{Appends-trans}
use Rattle.std.specs.Io.KnownBytes.{Appends}
use Rattle.streams.specs.Sinks.{Seen, TakesText, FailsIn, Puts}

front : (k : ℕ) (a b : List ℕ) → k < length a → take k (a ++ b) ≡ take k a
front k [] b lt = absurd (omega (arith, lt))
front zero (x ∷ a) b lt = refl
front (suc k) (x ∷ a) b lt = ap (λ (t : List ℕ). x ∷ t) (front k a b (omega (arith, lt)))

pub takes_then : (o m n : Seen) (a b : List ℕ) (r : Bool) → TakesText o a m → Puts m b n r → Puts o (a ++ b) n r
takes_then o m n a b true t p = record {
  bytes = Appends-trans o.bytes m.bytes n.bytes a b t.bytes p.bytes;
  failed = p.failed ∙ t.failed;
}
takes_then o m n a b false t p = record {
  taken = length a + p.taken;
  fewer = omega (arith, p.fewer, length-append a b);
  bytes = subst (Appends o.bytes n.bytes) (sym (take-append-add a b p.taken)) (Appends-trans o.bytes m.bytes n.bytes a (take p.taken b) t.bytes p.bytes);
  failed = p.failed;
}

pub fails_then : (o m : Seen) (a b : List ℕ) → FailsIn o a m → Puts o (a ++ b) m false
fails_then o m a b f = record {
  taken = f.taken;
  fewer = omega (arith, f.fewer, length-append a b);
  bytes = subst (Appends o.bytes m.bytes) (sym (front f.taken a b f.fewer)) f.bytes;
  failed = f.failed;
}

-- a text of which a front went in, and then the rest was put
pub rest_then : (o m n : Seen) (text : List ℕ) (k : ℕ) (r : Bool) → Appends o.bytes m.bytes (take k text) → m.failed ≡ o.failed
    → Puts m (take (length text - k) (drop k text)) n r → Puts o text n r
rest_then o m n text k r front same p =
    subst (λ (xs : List ℕ). Puts o xs n r) (take-append-drop k text)
    (takes_then o m n (take k text) (drop k text) r (record { bytes = front; failed = same }) (subst (λ (xs : List ℕ). Puts m xs n r) (take_rest text k) p))
