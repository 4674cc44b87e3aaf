-- What a line breaks, seen through what is looked at in it.
use Rattle.std.proofs.Common.{◌≡◌, ℕ, Bool, true, false, ◌||◌, List, [], ◌∷◌, ap, ◌∙◌, refl, sym}
use Rattle.std.specs.Prelude.{not, ◌&&◌, if◌then◌else◌, Option, None, Some, Result, Ok, Err, is_some, option_map}
use Rattle.channel_config.specs.Setup.{Setup}
use Rattle.channel_config.specs.declared.config.ConfigRule.{ConfigRule}
use Rattle.script_rows.specs.declared.settings.Setting.{Setting}
use Rattle.script_rows.specs.declared.words.LineRule.{LineRule}
use Rattle.script_rows.specs.declared.words.LineRule.TheVariants.{SettingAfterAction, StorageNotFirst}
use Rattle.script_rows.specs.Settings.{configured}
use Rattle.script.specs.Parsing.{Parsed, Nothing, Sets, Does, Races, parsed, has_words, first_is_storage}
use Rattle.script.specs.Pieces.{words_between_blanks}
use Rattle.script.specs.Scripts.{setting_of, is_action, broken_by, refused_setting, fault, setup_kept}
use Rattle.line_reasons.specs.declared.verdict.Saying.{Saying}
use Rattle.line_reasons.specs.declared.verdict.Broken.{Broken}
use Rattle.line_reasons.specs.declared.verdict.Broken.TheVariants as broken
use Rattle.line_reasons.specs.Verdicts.{Checked, context, spoken_of, saying_of, settings_in, acting_first, breaks, saying_breaks, late_or, refusal, line_rule_of, too_late, taken, counted}
use Rattle.line_reasons.specs.declared.verdict.Spoken.{Spoken}
use Rattle.line_reasons.specs.declared.verdict.Saying.TheVariants as saying
use Rattle.std.specs.Option.{is_none}

setting-breaks : (first : Option ℕ) (made : Result Setup ConfigRule) →
    option_map line_rule_of (late_or first (refusal made)) ≡ (if is_some first then Some SettingAfterAction else refused_setting made)
setting-breaks (Some n) made = refl
setting-breaks None (Ok s) = refl
setting-breaks None (Err rule) = refl

said-breaks : (c : Checked) (what : Result Parsed LineRule) → option_map line_rule_of (saying_breaks c (saying_of what)) ≡ broken_by (context c) false what
said-breaks c (Err rule) = refl
said-breaks c (Ok Nothing) = refl
said-breaks c (Ok (Sets setting)) = setting-breaks c.first_action (configured c.setup setting)
said-breaks c (Ok (Does action)) = refl
said-breaks c (Ok (Races race)) = refl

chosen : (early : Bool) (other : Option Broken) (rule : Option LineRule) → option_map line_rule_of other ≡ rule →
    option_map line_rule_of (if early then Some broken.NotStorage else other) ≡ (if early then Some StorageNotFirst else rule)
chosen true other rule e = refl
chosen false other rule e = e

-- the rule that is broken is the one of the definition of a script
pub line-breaks : (c : Checked) (line : List ℕ) → option_map line_rule_of (breaks c (spoken_of line)) ≡ fault (context c) false line
line-breaks c line =
    chosen (has_words line && (not c.begun && not (first_is_storage (words_between_blanks line)))) (saying_breaks c (saying_of (parsed line)))
    (broken_by (context c) false (parsed line)) (said-breaks c (parsed line))

or-false : (a : Bool) → (a || false) ≡ a
or-false true = refl
or-false false = refl

acted : (first : Option ℕ) (number : ℕ) (what : Result Parsed LineRule) →
    is_some (acting_first first number (saying_of what)) ≡ (is_some first || is_action what)
acted first number (Err rule) = sym (or-false (is_some first))
acted first number (Ok Nothing) = sym (or-false (is_some first))
acted first number (Ok (Sets setting)) = sym (or-false (is_some first))
acted None number (Ok (Does action)) = refl
acted (Some n) number (Ok (Does action)) = refl
acted None number (Ok (Races race)) = refl
acted (Some n) number (Ok (Races race)) = refl

settings : (what : Result Parsed LineRule) → settings_in (saying_of what) ≡ setting_of what
settings (Err rule) = refl
settings (Ok Nothing) = refl
settings (Ok (Sets setting)) = refl
settings (Ok (Does action)) = refl
settings (Ok (Races race)) = refl

pub acted-after : (first : Option ℕ) (number : ℕ) (line : List ℕ) →
    is_some (acting_first first number (saying_of (parsed line))) ≡ (is_some first || is_action (parsed line))
acted-after first number line = acted first number (parsed line)

pub settings-after : (line : List ℕ) → settings_in (saying_of (parsed line)) ≡ setting_of (parsed line)
settings-after line = settings (parsed line)

-- what the checker found is what is told
pub none-told : (c : Checked) (line : List ℕ) (spoken : Spoken) (found : Option Broken) → spoken ≡ spoken_of line → found ≡ breaks c spoken → found ≡ None →
    None ≡ fault (context c) false line
none-told c line spoken found e f none =
    ap (option_map line_rule_of) (sym none ∙ f ∙ ap (breaks c) e) ∙ line-breaks c line

pub some-told : (c : Checked) (line : List ℕ) (spoken : Spoken) (found : Option Broken) (it : Broken) (rule : LineRule) → spoken ≡ spoken_of line →
    found ≡ breaks c spoken → found ≡ Some it → rule ≡ line_rule_of it → Some rule ≡ fault (context c) false line
some-told c line spoken found it rule e f some same =
    ap (λ (r : LineRule). Some r) same ∙ ap (option_map line_rule_of) (sym some ∙ f ∙ ap (breaks c) e) ∙ line-breaks c line

kept-setting : (first : Option ℕ) (made : Result Setup ConfigRule) (setup : Setup) (setting : Setting) →
    too_late (Ok (saying.Sets setting)) first ≡ None → is_some (late_or first (refusal made)) ≡ true → setup_kept setup made ≡ setup
kept-setting (Some n) made setup setting e h = absurd (cc e)
kept-setting None (Ok new) setup setting e h = absurd (cc h)
kept-setting None (Err rule) setup setting e h = refl

-- a bad line that is not too late changes nothing
bad-kept : (c : Checked) (number : ℕ) (said : Result Saying LineRule) → too_late said c.first_action ≡ None → is_some (saying_breaks c said) ≡ true →
    taken c number said ≡ c
bad-kept c number (Err rule) e h = refl
bad-kept c number (Ok saying.Nothing) e h = absurd (cc h)
bad-kept c number (Ok (saying.Sets setting)) e h =
    ap (λ (s : Setup). record c { setup = s }) (kept-setting c.first_action (configured c.setup setting) c.setup setting e h)
bad-kept c number (Ok saying.Acts) e h = absurd (cc h)
bad-kept c number (Ok saying.Races) e h = absurd (cc e)

is-some : (found : Option Broken) → is_none found ≡ false → is_some found ≡ true
is-some None e = absurd (cc e)
is-some (Some it) e = refl

-- a bad line that was taken in a dialogue is left out
pub left-out : (c new : Checked) (number : ℕ) (spoken : Spoken) (found : Option Broken) → breaks c spoken ≡ saying_breaks c spoken.said →
    too_late spoken.said c.first_action ≡ None → found ≡ saying_breaks c spoken.said → is_none found ≡ false → new ≡ taken c number spoken.said →
    new ≡ (if is_some (breaks c spoken) then c else counted c number spoken)
left-out c new number spoken found same late f bad step =
    let some = ap is_some (sym f) ∙ is-some found bad in
    step ∙ bad-kept c number spoken.said late some
    ∙ sym (ap (λ (b : Bool). if b then c else counted c number spoken) (ap is_some same ∙ some))
