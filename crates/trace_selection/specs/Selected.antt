-- Which lines, subchannels, units, channel paths and records are shown (own).
use Rattle.std.specs.Prelude.{ℕ, Bool, false, true, ◌||◌, ◌&&◌, ◌==◌, nat_le, List, [], ◌∷◌, filter, slice_get, Option, None, Some}
use Rattle.std.specs.List.{list_any}
use Rattle.channel_config.specs.SubchannelWords.{subchannel_named}
use Rattle.channel_config.specs.declared.names.SubchannelId.{SubchannelId}
use Rattle.channel_config.specs.declared.parts.SubchannelSetup.{SubchannelSetup}
use Rattle.step_records.specs.Lines.{line_of}
use Rattle.step_records.specs.declared.parties.Parties.{Parties}
use Rattle.step_records.specs.declared.record.Fact.{Fact}
use Rattle.step_records.specs.declared.record.Fact.TheVariants as fact
use Rattle.step_records.specs.declared.record.Record.{Record}
use Rattle.step_records.specs.declared.script_lines.ScriptLines.{ScriptLines}
use Rattle.trace_selection.specs.Subjects.{subject_of_line}
use Rattle.trace_selection.specs.declared.Selection.{Selection}
use Rattle.trace_selection.specs.declared.subject.Subject.{Subject}
use Rattle.trace_selection.specs.declared.subject.Subject.TheVariants as subject

-- nothing is named, so all is shown
abbrev pub names_none : List ℕ → Bool
names_none [] = true
names_none (word ∷ words) = false

-- a subsystem-identification word names this subchannel
abbrev pub is_that : Option SubchannelId → SubchannelId → Bool
is_that None id = false
is_that (Some found) id = (found.set == id.set) && (found.number == id.number)

abbrev pub names : ℕ → SubchannelId → Bool
names word id = is_that (subchannel_named 4 word) id

abbrev pub has_subchannel : List ℕ → SubchannelId → Bool
has_subchannel named id = names_none named || list_any (λ word. names word id) named

-- the subchannel at an index; where there is none nothing is left out
abbrev pub has_found : List ℕ → Option SubchannelSetup → Bool
has_found named None = true
has_found named (Some setup) = has_subchannel named setup.id

abbrev pub has_index : List ℕ → List SubchannelSetup → ℕ → Bool
has_index named setups index = has_found named (slice_get setups index)

-- a unit is shown where one of its subchannels is
abbrev pub has_unit : List ℕ → List SubchannelSetup → ℕ → Bool
has_unit named setups unit = names_none named || list_any (λ setup. (setup.unit == unit) && has_subchannel named setup.id) setups

-- a channel path is shown where one of its subchannels is
abbrev pub has_path : List ℕ → List SubchannelSetup → ℕ → Bool
has_path named setups chpid =
    names_none named || list_any (λ setup. has_subchannel named setup.id && list_any (λ own. own == chpid) setup.paths) setups

-- what a line is about
abbrev pub has_subject : List ℕ → List SubchannelSetup → Subject → Bool
has_subject named setups subject.All = true
has_subject named setups (subject.Subchannel word) = names_none named || list_any (λ own. own == word) named
has_subject named setups (subject.Unit unit) = has_unit named setups unit
has_subject named setups (subject.ChannelPath chpid) = has_path named setups chpid

-- what a fact of a line is about
abbrev pub has_fact : List ℕ → List SubchannelSetup → List ℕ → Fact → Bool
has_fact named setups line fact.Event = has_subject named setups (subject_of_line line)
has_fact named setups line (fact.Found subchannel control enabled) = has_subject named setups (subject_of_line line)
has_fact named setups line (fact.Answer outcome) = has_subject named setups (subject_of_line line)
has_fact named setups line (fact.Refused why) = has_subject named setups (subject_of_line line)
has_fact named setups line (fact.PathState chpid up) = has_path named setups chpid
has_fact named setups line (fact.Signal wire moved signal) = has_index named setups wire.subchannel
has_fact named setups line (fact.Hold subchannel before after) = has_index named setups subchannel
has_fact named setups line (fact.Enabled subchannel enabled subclass multipath) = has_index named setups subchannel
has_fact named setups line (fact.Mask subchannel mask before after) = has_index named setups subchannel
has_fact named setups line (fact.Functions subchannel before after) = has_index named setups subchannel
has_fact named setups line (fact.Orb subchannel orb) = has_index named setups subchannel
has_fact named setups line (fact.Program subchannel start stage) = has_index named setups subchannel
has_fact named setups line (fact.Ccw subchannel address format ccw goes_on) = has_index named setups subchannel
has_fact named setups line (fact.Copy subchannel direction address bytes) = has_index named setups subchannel
has_fact named setups line (fact.StatusMade subchannel words serial cause) = has_index named setups subchannel
has_fact named setups line (fact.StatusCleared subchannel serial) = has_index named setups subchannel
has_fact named setups line (fact.Request subchannel subclass change) = has_index named setups subchannel
has_fact named setups line (fact.Report change crw) = has_path named setups crw.path
has_fact named setups line (fact.Owner unit before after) = has_unit named setups unit
has_fact named setups line (fact.Command unit before after) = has_unit named setups unit
has_fact named setups line (fact.AttentionTaken unit attention) = has_unit named setups unit
has_fact named setups line (fact.Device unit act) = has_unit named setups unit

-- the lines from the first to the last are shown: line 1 is the first of a script, and the greatest number is no end
abbrev pub has_line : Selection → ℕ → Bool
has_line s line = (nat_le s.first 1 || nat_le s.first line) && (s.last == 0xFFFFFFFFFFFFFFFF || nat_le line s.last)

-- nothing is left out
abbrev pub has_all : Selection → Bool
has_all s = nat_le s.first 1 && (s.last == 0xFFFFFFFFFFFFFFFF && names_none s.subchannels.items)

-- a record is shown where its line is, and what it is about
abbrev pub has_record : Selection → ScriptLines → Parties → Record → Bool
has_record s text parties told =
    has_line s told.line && (names_none s.subchannels.items || has_fact s.subchannels.items parties.subchannels.items (line_of text told.line) told.fact)

abbrev pub shown : Selection → ScriptLines → Parties → List Record → List Record
shown s text parties records = filter (λ told. has_record s text parties told) records
