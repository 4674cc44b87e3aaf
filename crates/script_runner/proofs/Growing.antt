-- One more line performed and written.
use Rattle.std.proofs.Common.{◌≡◌, ℕ, ◌+◌, Bool, true, false, not, ◌||◌, List, [], ◌∷◌, ◌++◌, length, take, map, refl, subst, sym, ap, ◌∙◌, append-nil, append_assoc, suc, arith, inl, inr, true≢false}
use Rattle.std.specs.Prelude.{◌⊎◌, is_err, slice_get, Some, Ok, Err}
use Rattle.std.specs.List.{list_any}
use Rattle.std.proofs.lemmas.List.{take_more}
use Rattle.std.proofs.lemmas.Option.{slice_get_within, get_or_from_slice_get}
use Rattle.std.proofs.KnownBytes.{Appends-nil, Appends-trans}
use Rattle.script_rows.specs.declared.Action.{Action}
use Rattle.script_text.specs.Text.{event_line}
use Rattle.script.specs.declared.Line.{Line}
use Rattle.script_runner.specs.declared.performing.Written.{Written}
use Rattle.script_runner.specs.Acting.{Installed, ActionOutcome, IsUsedUp, PerformsAction, Runs, is_starved}
use Rattle.script_runner.proofs.Starving.{acted_longer, caused-more}
use Rattle.streams.specs.Sinks.{Seen, TakesText, Puts}
use Rattle.script_runner.specs.Performing.{output_of, IsDone, HasPerformed, HasStopped}

pub runs-more : (old : Installed) (es : List Action) (os : List ActionOutcome) (middle : Installed) (e : Action) (o : ActionOutcome) (new : Installed)
    → Runs old es os middle → PerformsAction middle e o new → Runs old (es ++ e ∷ []) (os ++ o ∷ []) new
runs-more old [] [] middle e o new h s = (new, subst (λ (m : Installed). PerformsAction m e o new) h s, refl)
runs-more old [] (p ∷ os) middle e o new h s = absurd h
runs-more old (f ∷ es) [] middle e o new h s = absurd h
runs-more old (f ∷ es) (p ∷ os) middle e o new h s = (h.0, h.1, runs-more h.0 es os middle e o new h.2 s)

pub runs-length : (old : Installed) (ls : List Line) (os : List ActionOutcome) (new : Installed) → Runs old (map (λ l. l.action) ls) os new → length ls ≡ length os
runs-length old [] [] new h = refl
runs-length old [] (p ∷ os) new h = absurd h
runs-length old (l ∷ ls) [] new h = absurd h
runs-length old (l ∷ ls) (p ∷ os) new h = ap suc (runs-length h.0 ls os new h.2)

pub output-more : (ls : List Line) (os : List ActionOutcome) (l : Line) (o : ActionOutcome) → length ls ≡ length os
    → output_of (ls ++ l ∷ []) (os ++ o ∷ []) ≡ output_of ls os ++ event_line l.number o
output-more [] [] l o e = append-nil (event_line l.number o)
output-more [] (p ∷ os) l o e = absurd (omega arith)
output-more (m ∷ ls) [] l o e = absurd (omega arith)
output-more (m ∷ ls) (p ∷ os) l o e =
    let shorter : length ls ≡ length os = omega arith in
    ap (λ (t : List ℕ). event_line m.number p ++ t) (output-more ls os l o shorter) ∙ sym (append_assoc (event_line m.number p) (output_of ls os) (event_line l.number o))

pub or-assoc : (a b c : Bool) → (a || (b || c)) ≡ ((a || b) || c)
or-assoc true b c = refl
or-assoc false b c = refl

pub or-false : (a : Bool) → (a || false) ≡ a
or-false true = refl
or-false false = refl

pub any-more : (test : ActionOutcome → Bool) (os : List ActionOutcome) (o : ActionOutcome) → list_any test (os ++ o ∷ []) ≡ (list_any test os || test o)
any-more test [] o = or-false (test o)
any-more test (p ∷ os) o = ap (λ (b : Bool). test p || b) (any-more test os o) ∙ or-assoc (test p) (list_any test os) (test o)

pub refused-more : (os : List ActionOutcome) (o : ActionOutcome) (a b : Bool) → a ≡ list_any is_err os → b ≡ is_err o → (a || b) ≡ list_any is_err (os ++ o ∷ [])
refused-more os o a b e f = ap (λ (x : Bool). x || b) e ∙ ap (λ (x : Bool). list_any is_err os || x) f ∙ sym (any-more is_err os o)

pub actions-more : (ls : List Line) (l : Line) → map (λ (k : Line). k.action) (ls ++ l ∷ []) ≡ map (λ (k : Line). k.action) ls ++ l.action ∷ []
actions-more [] l = refl
actions-more (m ∷ ls) l = ap (λ (t : List Action). m.action ∷ t) (actions-more ls l)

takes-more : (held then now : Seen) (xs ys : List ℕ) → TakesText held xs then → TakesText then ys now → TakesText held (xs ++ ys) now
takes-more held then now xs ys a b = record {
  bytes = Appends-trans held.bytes then.bytes now.bytes xs ys a.bytes b.bytes;
  failed = b.failed ∙ a.failed;
}

performed_more : (was short : Bool) (old middle new : Installed) (ls : List Line) (l : Line) (held then now : Seen) (a : Bool) (r : Written) (o : ActionOutcome)
    → HasPerformed was old ls held then a middle → PerformsAction middle l.action o new → r.refused ≡ is_err o → TakesText then (event_line l.number o) now
    → (is_starved o ≡ false → short ≡ was) → (is_starved o ≡ true → (short ≡ true) ⊎ IsUsedUp middle.past)
    → HasPerformed short old (ls ++ l ∷ []) held now (a || r.refused) new
performed_more was short old middle new ls l held then now a r o h acts refused took given memory = record {
  outcomes = h.outcomes ++ o ∷ [];
  runs = subst (λ (es : List Action). Runs old es (h.outcomes ++ o ∷ []) new) (sym (actions-more ls l))
      (runs-more old (map (λ k. k.action) ls) h.outcomes middle l.action o new h.runs acts);
  refused = refused-more h.outcomes o a r.refused h.refused refused;
  written = subst (λ (text : List ℕ). TakesText held text now) (sym (output-more ls h.outcomes l o (runs-length old ls h.outcomes middle h.runs)))
      (takes-more held then now (output_of ls h.outcomes) (event_line l.number o) h.written took);
  memory = λ e. caused-more was short middle.past new.past (list_any is_starved h.outcomes) (is_starved o) (acted_longer middle l.action o new acts) h.memory given memory
      (sym (any-more is_starved h.outcomes o) ∙ e);
}

pub grown : (ls : List Line) (i : ℕ) (l : Line) → slice_get ls i ≡ Some l → take (i + 1) ls ≡ take i ls ++ l ∷ []
grown ls i l there = take_more ls i l (slice_get_within ls i l there) ∙ ap (λ (k : Line). take i ls ++ k ∷ []) (get_or_from_slice_get ls i l l there)

pub performed_to : (was short : Bool) (old middle new : Installed) (ls : List Line) (i : ℕ) (l : Line) (held then now : Seen) (a : Bool) (r : Written)
    → slice_get ls i ≡ Some l → HasPerformed was old (take i ls) held then a middle → IsDone was short middle l then now r new → r.whole ≡ true
    → HasPerformed short old (take (i + 1) ls) held now (a || r.refused) new
performed_to was short old middle new ls i l held then now a r there h t whole =
    subst (λ (ks : List Line). HasPerformed short old ks held now (a || r.refused) new) (sym (grown ls i l there))
    (performed_more was short old middle new (take i ls) l held then now a r t.outcome h t.acts t.refused
    (subst (λ (w : Bool). Puts then (event_line l.number t.outcome) now w) whole t.prints) t.unrefused t.memory)

-- before the first line
pub performed_none : (short : Bool) (old : Installed) (held : Seen) → HasPerformed short old [] held held false old
performed_none short old held = record {
  outcomes = [];
  runs = refl;
  refused = refl;
  written = record { bytes = Appends-nil held.bytes; failed = refl };
  memory = λ e. absurd (true≢false (sym e));
}

still : (was short : Bool) (middle : Installed) (some now : Bool) → (some ≡ true → (was ≡ true) ⊎ IsUsedUp middle.past) → (now ≡ false → short ≡ was) → (now ≡ true → (short ≡ true) ⊎ IsUsedUp middle.past)
    → some ≡ true → (short ≡ true) ⊎ IsUsedUp middle.past
still was short middle some true earlier given memory e = memory refl
still was short middle some false earlier given memory e = elim (earlier e) [ inl is ↦ inl (given refl ∙ is) | inr used ↦ inr used ]

-- the sink failed within the print of a line
pub stopped_at : (was short : Bool) (old middle new : Installed) (ls : List Line) (i : ℕ) (l : Line) (held then now : Seen) (a : Bool) (r : Written)
    → slice_get ls i ≡ Some l → HasPerformed was old (take i ls) held then a middle → IsDone was short middle l then now r new → r.whole ≡ false
    → HasStopped short old ls held now (a || r.refused) new
stopped_at was short old middle new ls i l held then now a r there h t failed = record {
  done = i;
  last = l;
  there = there;
  middle = middle;
  between = then;
  earlier = a;
  was = was;
  written = r;
  performed = record {
    outcomes = h.outcomes;
    runs = h.runs;
    refused = h.refused;
    written = h.written;
    memory = still was short middle (list_any is_starved h.outcomes) (is_starved t.outcome) h.memory t.unrefused t.memory;
  };
  stopped = t;
  printed = failed;
  refused = refl;
}

pub not_whole : (b : Bool) → not b ≡ true → b ≡ false
not_whole true e = absurd (true≢false (sym e))
not_whole false e = refl

nothing_starved : (o : ActionOutcome) → is_err o ≡ false → is_starved o ≡ false
nothing_starved (Ok told) e = refl
nothing_starved (Err f) e = absurd (true≢false e)

both_false : (a b : Bool) → (a || b) ≡ false → (a ≡ false) × (b ≡ false)
both_false true b e = absurd (true≢false e)
both_false false b e = (refl, e)

-- where no action was refused the supply refused none
pub none_refused : (was short : Bool) (middle : Installed) (l : Line) (then now : Seen) (r : Written) (new : Installed) → IsDone was short middle l then now r new → r.refused ≡ false → short ≡ was
none_refused was short middle l then now r new t e = t.unrefused (nothing_starved t.outcome (sym t.refused ∙ e))

pub none_refused_more : (first was short : Bool) (middle : Installed) (l : Line) (then now : Seen) (a : Bool) (r : Written) (new : Installed)
    → (a ≡ false → was ≡ first) → IsDone was short middle l then now r new → (a || r.refused) ≡ false → short ≡ first
none_refused_more first was short middle l then now a r new given t e =
    let both = both_false a r.refused e in
    none_refused was short middle l then now r new t both.1 ∙ given both.0

pub whole_if : (b : Bool) → not b ≡ false → b ≡ true
whole_if true e = refl
whole_if false e = absurd (cc e)
