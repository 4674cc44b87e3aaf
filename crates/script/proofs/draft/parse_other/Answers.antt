use Rattle.std.proofs.Common.{ap, map, Option, Result}
use Rattle.script.specs.Parsing.{parsed_drive, parsed_setting}
use Rattle.script.specs.Scripts.{may_race}
use Rattle.script_rows.specs.Settings.{setting_row}
use Rattle.script_rows.specs.declared.settings.Setting.{Setting}
use Rattle.script_rows.specs.declared.words.LineRule.{LineRule}
use Rattle.script.proofs.Drafting.{says-of, set-ok, set-err}
use Rattle.script.proofs.draft.parse_other.Goals as goal

pub returns-in-Some-clause-ok : goal.returns-in-Some-clause-ok
returns-in-Some-clause-ok g c =
    let word = c.args.sentence.now.first.now in
    let words = map (λ w. w.now) c.args.sentence.now.others.now in
    let says = says-of _ _ (setting_row word words) c.in-Some.is c.in_ok-setting.ensures.says in
    set-ok c.set.result c.args.draft.now c.set.new.draft c.in-Some.setting c.args.next.now.number (may_race c.args.next.now.races c.args.next.now.line.later)
    (parsed_setting (setting_row word words) (parsed_drive word words))
    (ap (λ (parsed : Option (Result Setting LineRule)). parsed_setting parsed (parsed_drive word words)) says) c.set.ensures.ok

pub returns-in-Some-clause-err : goal.returns-in-Some-clause-err
returns-in-Some-clause-err g c =
    let word = c.args.sentence.now.first.now in
    let words = map (λ w. w.now) c.args.sentence.now.others.now in
    let says = says-of _ _ (setting_row word words) c.in-Some.is c.in_ok-setting.ensures.says in
    set-err c.set.result c.args.draft.now c.in-Some.setting (may_race c.args.next.now.races c.args.next.now.line.later)
    (parsed_setting (setting_row word words) (parsed_drive word words))
    (ap (λ (parsed : Option (Result Setting LineRule)). parsed_setting parsed (parsed_drive word words)) says) c.set.ensures.err
