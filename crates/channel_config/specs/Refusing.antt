-- What a configuration line does.
use Rattle.std.specs.Prelude.{◌≡◌, Result, Ok, Err, MatchResult}
use Rattle.channel_config.specs.declared.config.ConfigFault.{ConfigFault}
use Rattle.channel_config.specs.declared.config.ConfigFault.TheVariants.{NoMemory, Rule}
use Rattle.channel_config.specs.declared.config.ConfigRule.{ConfigRule}
use Rattle.channel_config.specs.Setup.{Setup}

-- which rule a refusal names; nothing is said of want of memory
abbrev pub Refuses : ConfigFault → Result Setup ConfigRule → Type 0
Refuses NoMemory made = Unit {0}
Refuses (Rule rule) made = made ≡ Err rule

-- the set-up becomes the one that is made, or the line is refused and the set-up stays as it was
abbrev pub Configures : Setup → Setup → Result (Unit {0}) ConfigFault → Result Setup ConfigRule → Type 0
Configures old new result made = MatchResult result (λ _. made ≡ Ok new) (λ fault. Refuses fault made × (new ≡ old))
