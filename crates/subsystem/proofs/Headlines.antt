-- The headline, from the laws that it gathers.
use Rattle.std.proofs.Common.{List}
use Rattle.chan_events.specs.Events.{Event}
use Rattle.chan_events.specs.declared.reply.Entry.{Entry}
use Rattle.chan_events.specs.Replies.{Reply}
use Rattle.channel_config.specs.Lawful.{IsLawful}
use Rattle.channel_config.specs.Setup.{Setup}
use Rattle.machine_model.specs.State.{State, opening_of}
use Rattle.machine_model.specs.Steps.{HasRun, Step, Run, Opened, Stepped}
use Rattle.subsystem.specs.Headline.{HeadlineHolds, HoldsAfter, HoldsIn, HoldsThroughout, HasHeld}

-- what holds of the entries of each run, after each run, and in each step from where a run led
abbrev pub BySeen : Type 0
BySeen = (setup : Setup) (h : List Entry) (s : State) → IsLawful setup → Run (opening_of setup) h s → HeadlineHolds setup h

abbrev pub AfterEach : Type 0
AfterEach = (setup : Setup) → IsLawful setup → (h : List Entry) (s : State) (run : Run (opening_of setup) h s) → HoldsAfter (opening_of setup) h s run

abbrev pub InEach : Type 0
InEach =
    (setup : Setup) → IsLawful setup → (h : List Entry) (old : State) (run : Run (opening_of setup) h old) (e : Event) (r : Reply) (new : State)
    (step : Step old e r new) → HoldsIn (opening_of setup) h old run e r new step

holds-throughout : AfterEach → InEach → (setup : Setup) → IsLawful setup → (h : List Entry) (s : State) (run : Run (opening_of setup) h s) →
    HoldsThroughout (opening_of setup) h s run
holds-throughout after each setup lawful _ _ Opened = after setup lawful _ _ Opened
holds-throughout after each setup lawful _ _ (Stepped h old e r new run step) =
    (holds-throughout after each setup lawful h old run, each setup lawful h old run e r new step, after setup lawful _ _ (Stepped h old e r new run step))

pub past-held : BySeen → AfterEach → InEach → (h : List Entry) (s : State) → HasRun h s → HasHeld h s
past-held seen after each h s past = record {
  leads = past;
  seen = λ setup k. seen setup h s k.lawful (past.1 setup k);
  throughout = λ setup k run. holds-throughout after each setup k.lawful h s run;
}
