-- A text that is put piece by piece, where what is left of it is a function of what is left to do.
use Rattle.std.proofs.Common.{◌≡◌, refl, ℕ, Bool, true, false, List, [], ◌++◌, ◌∙◌, subst}
use Rattle.std.proofs.Common.{append_assoc}
use Rattle.std.proofs.KnownBytes.{Appends-nil}
use Rattle.streams.specs.Sinks.{Seen, TakesText, FailsIn, Puts}
use Rattle.streams.proofs.Sinking.{takes_then, fails_then}

-- a beginning of the whole went in, and the rest is due
pub record Goes (old now : Seen) (rest whole : List ℕ) : Type 0 where
  pub text : List ℕ
  pub took : TakesText old text now
  pub left : text ++ rest ≡ whole

pub begun : (o : Seen) (whole : List ℕ) → Goes o o whole whole
begun o whole = record { text = []; took = record { bytes = Appends-nil o.bytes; failed = refl }; left = refl }

pub goes_on : (o m n : Seen) (piece rest whole : List ℕ) → Goes o m (piece ++ rest) whole → TakesText m piece n → Goes o n rest whole
goes_on o m n piece rest whole g t = record {
  text = g.text ++ piece;
  took = takes_then o m n g.text piece true g.took t;
  left = append_assoc g.text piece rest ∙ g.left;
}

pub fails_in : (o m n : Seen) (piece rest whole : List ℕ) → Goes o m (piece ++ rest) whole → FailsIn m piece n → Puts o whole n false
fails_in o m n piece rest whole g f =
    subst (λ (text : List ℕ). Puts o text n false) (append_assoc g.text piece rest ∙ g.left)
    (fails_then o n (g.text ++ piece) rest (takes_then o m n g.text piece false g.took f))

pub ends : (o m n : Seen) (piece whole : List ℕ) (r : Bool) → Goes o m piece whole → Puts m piece n r → Puts o whole n r
ends o m n piece whole r g p =
    subst (λ (text : List ℕ). Puts o text n r) g.left (takes_then o m n g.text piece r g.took p)

pub goes_as : (o m : Seen) (rest other whole : List ℕ) → rest ≡ other → Goes o m rest whole → Goes o m other whole
goes_as o m rest other whole e g = subst (λ (text : List ℕ). Goes o m text whole) e g
