-- What a selection leaves that leaves nothing out.
use Rattle.std.proofs.Common.{◌≡◌, Bool, true, false, ◌&&◌, ◌||◌, ◌==◌, cond, List, [], ◌∷◌, refl, sym, ap, ◌∙◌}
use Rattle.std.specs.Prelude.{filter, nat_le}
use Rattle.step_records.specs.Lines.{line_of}
use Rattle.step_records.specs.declared.parties.Parties.{Parties}
use Rattle.step_records.specs.declared.record.Record.{Record}
use Rattle.step_records.specs.declared.script_lines.ScriptLines.{ScriptLines}
use Rattle.trace_selection.specs.Selected.{has_all, has_fact, has_record, names_none, shown}
use Rattle.trace_selection.specs.declared.Selection.{Selection}

-- no bound, and no name
unbound : (p a q b r c : Bool) → (p && (q && r)) ≡ true → (((p || a) && (q || b)) && (r || c)) ≡ true
unbound true a true b true c e = refl
unbound true a true b false c e = absurd (cc e)
unbound true a false b r c e = absurd (cc e)
unbound false a q b r c e = absurd (cc e)

has_each : (s : Selection) (text : ScriptLines) (parties : Parties) (told : Record) → has_all s ≡ true → has_record s text parties told ≡ true
has_each s text parties told all =
    unbound (nat_le s.first 1) (nat_le s.first told.line) (s.last == 0xFFFFFFFFFFFFFFFF) (nat_le told.line s.last) (names_none s.subchannels.items)
    (has_fact s.subchannels.items parties.subchannels.items (line_of text told.line) told.fact) all

filter_true : {A : Type 0} (test : A → Bool) (xs : List A) → ((x : A) → test x ≡ true) → xs ≡ filter test xs
filter_true test [] each = refl
filter_true test (x ∷ xs) each =
    ap (λ (ys : List _). x ∷ ys) (filter_true test xs each) ∙ sym (ap (λ (b : Bool). cond b (x ∷ filter test xs) (filter test xs)) (each x))

pub all_shown : (s : Selection) (text : ScriptLines) (parties : Parties) (records : List Record) → has_all s ≡ true → records ≡ shown s text parties records
all_shown s text parties records all = filter_true (λ told. has_record s text parties told) records (λ told. has_each s text parties told all)
