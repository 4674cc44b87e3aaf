-- What is kept of each subchannel holds after each run.
use Rattle.std.proofs.Common.{◌≡◌, refl, sym, subst, ℕ, suc, ◌+◌, ◌<◌, Bool, true, false, cond, Some, List, [], ◌∷◌, length, map, arith}
use Rattle.std.specs.Prelude.{slice_get, All}
use Rattle.std.specs.List.{AllZip}
use Rattle.std.proofs.lemmas.List.Elements.{All-contains, All-map, AllZip-get_or, length_all_zip}
use Rattle.std.proofs.lemmas.Option.{slice_get_within, get_or_from_slice_get}
use Rattle.scsw_irb.specs.declared.serials.Serials.{Serials}
use Rattle.channel_config.specs.declared.parts.SubchannelSetup.{SubchannelSetup}
use Rattle.channel_config.specs.Setup.{Setup}
use Rattle.chan_events.specs.Events.{Event}
use Rattle.chan_events.specs.declared.reply.Entry.{Entry}
use Rattle.chan_events.specs.Replies.{Reply}
use Rattle.subchannel_model.specs.declared.cause.StatusCause.TheVariants as cause
use Rattle.subchannel_model.specs.declared.state.Subchannel.{Subchannel}
use Rattle.subchannel_model.specs.declared.state.SubchannelState.{SubchannelState}
use Rattle.machine_model.specs.State.{State, opening_of}
use Rattle.subchannel_model.specs.Opening.{opened}
use Rattle.machine_model.specs.Steps.{Step, Run, Opened, Stepped}
use Rattle.run_laws.specs.StateClaims.{IsLaterSubchannel}
use Rattle.run_laws.proofs.Machine.Sound.{Sound, AreNumbered, later, started-sound, wholly-sound, modified-sound, effect-sound, reset_sent-sound, halt_sent-sound, made-sound, offered-sound, up-sound, lost-sound, system-sound}
use Rattle.step_laws.specs.Walks.{AreWalks}
use Rattle.run_laws.proofs.Machine.CountedEvents.{Spares, counted-in, every, every-counted, every-spares, one-more}
use Rattle.run_laws.proofs.Machine.Moves.{IsKept, Changed, step-moves, sets-stay}

-- one more event, above any floor
abbrev pub Turns : ℕ → SubchannelState → SubchannelState → Type 0
Turns n old new = (floor : Serials) → Sound floor n old → Sound floor (n + 1) new

turns : AreNumbered → (n : ℕ) → IsKept (Turns n)
turns numbered n = record {
  same = λ s floor k. later floor n s k;
  starts = λ s orb floor k. started-sound floor n s orb k;
  tests = λ s floor k. wholly-sound floor n s k;
  modifies = λ s pmcw floor k. modified-sound floor n s pmcw k;
  offers = λ s program path floor k. offered-sound floor n s program path k;
  functions = λ s f floor k. effect-sound floor n s f k;
  resets = λ s path floor k. reset_sent-sound floor n s path k;
  clears = λ s floor k. made-sound floor n s cause.ClearDone tt k;
  halts = λ s floor k. halt_sent-sound floor n s k;
  ends = λ s floor k. made-sound floor n s cause.HaltDone tt k;
  over = λ s floor k. made-sound floor n s cause.NoPath tt k;
  takes = λ returns storage s path signal floor k. up-sound numbered returns floor n storage s path signal k;
  marks = λ s new used looks f floor k. f floor k;
  loses = λ s path floor k. lost-sound numbered floor n s path k;
  shows = λ s new path up f floor k. f floor k;
  system = λ s floor k. system-sound floor n s k;
}

abbrev pub no_serials : Serials
no_serials = record { made = 0; cleared = 0 }

abbrev pub SoundSub : ℕ → Subchannel → Type 0
SoundSub n sub = Sound no_serials n sub.state

pub one-of : (n : ℕ) (subs : List Subchannel) (index : ℕ) (sub : Subchannel) → All (SoundSub n) subs → slice_get subs index ≡ Some sub → SoundSub n sub
one-of n subs index sub a e = All-contains (SoundSub n) subs sub a (index, slice_get_within subs index sub e, get_or_from_slice_get subs index sub sub e)

all-after : (n : ℕ) (xs ys : List Subchannel) → AllZip (Changed (Turns n)) xs ys → All (SoundSub n) xs → All (SoundSub (n + 1)) ys
all-after n xs ys z a =
    λ i d h.
    let long : length xs ≡ length ys = length_all_zip (Changed (Turns n)) xs ys z in
    let within : i < length xs = omega (arith, h, long) in
    (AllZip-get_or (Changed (Turns n)) xs ys i d d z within).state no_serials (a i d within)

-- a state that is kept is kept above its own serials
own : (floor : Serials) (n : ℕ) (s : SubchannelState) → Sound floor n s → Sound s.serials n s
own floor n s k = (k.0, k.1, k.2, k.3, k.4, k.5, omega arith, omega arith)

is-later : (n : ℕ) (x y : Subchannel) → SoundSub n x → Changed (Turns n) x y → IsLaterSubchannel x y
is-later n x y k c =
    let sound : Sound x.state.serials (n + 1) y.state = c.state x.state.serials (own no_serials n x.state k) in
    record { setup = c.setup; cleared = sound.6; made = sound.7 }

all-later : (n : ℕ) (xs ys : List Subchannel) → All (SoundSub n) xs → AllZip (Changed (Turns n)) xs ys → AllZip IsLaterSubchannel xs ys
all-later n [] [] a z = tt
all-later n [] (y ∷ ys) a z = absurd z
all-later n (x ∷ xs) [] a z = absurd z
all-later n (x ∷ xs) (y ∷ ys) a z =
    (is-later n x y (a 0 x (omega arith)) z.0, all-later n xs ys (λ i d h. a (suc i) d (omega (arith, h))) z.1)

opened-sound : (setups : List SubchannelSetup) → All (SoundSub 0) (map opened setups)
opened-sound setups = All-map (SoundSub 0) opened setups (λ k d h. (omega arith, omega arith, omega arith, tt, refl, omega arith, omega arith, omega arith))

-- after one step more, by whether its event is counted
sound-after : AreWalks → AreNumbered → (counted : Event → Bool) → Spares counted → (n : ℕ) (old : State) (e : Event) (r : Reply) (new : State) → Step old e r new →
    All (SoundSub n) old.subs → (counts : Bool) → counted e ≡ counts → All (SoundSub (n + cond counts 1 0)) new.subs
sound-after walks numbered counted spares n old e r new step k true is =
    all-after n old.subs new.subs (step-moves (Turns n) (turns numbered n) old e r new (walks old e r new step)).subs k
sound-after walks numbered counted spares n old e r new step k false is =
    subst (λ (m : ℕ). All (SoundSub m) new.subs) (let same : n ≡ n + 0 = omega arith in same)
    (subst (λ (xs : List Subchannel). All (SoundSub n) xs) (sym (spares old e r new step is).0) k)

pub run-sound-by : AreWalks → AreNumbered → (counted : Event → Bool) → Spares counted → (setup : Setup) (h : List Entry) (s : State) → Run (opening_of setup) h s →
    All (SoundSub (counted-in counted h)) s.subs
run-sound-by walks numbered counted spares setup _ _ Opened = opened-sound setup.subchannels
run-sound-by walks numbered counted spares setup _ _ (Stepped h old e r new run step) =
    subst (λ (m : ℕ). All (SoundSub m) new.subs) (sym (one-more counted h e r))
    (sound-after walks numbered counted spares (counted-in counted h) old e r new step (run-sound-by walks numbered counted spares setup h old run) (counted e) refl)

pub run-sound : AreWalks → AreNumbered → (setup : Setup) (h : List Entry) (s : State) → Run (opening_of setup) h s → All (SoundSub (length h)) s.subs
run-sound walks numbered setup h s run =
    subst (λ (m : ℕ). All (SoundSub m) s.subs) (every-counted h) (run-sound-by walks numbered every every-spares setup h s run)

-- a step after a run
pub step-sets : AreWalks → (s : State) (e : Event) (r : Reply) (new : State) → Step s e r new → new.sets ≡ s.sets
step-sets walks s e r new step = sets-stay s e r new (walks s e r new step)

pub step-later : AreWalks → AreNumbered → (setup : Setup) (h : List Entry) (s : State) (e : Event) (r : Reply) (new : State) → Run (opening_of setup) h s → Step s e r new →
    AllZip IsLaterSubchannel s.subs new.subs
step-later walks numbered setup h s e r new run step =
    all-later (length h) s.subs new.subs (run-sound walks numbered setup h s run) (step-moves (Turns (length h)) (turns numbered (length h)) s e r new (walks s e r new step)).subs
