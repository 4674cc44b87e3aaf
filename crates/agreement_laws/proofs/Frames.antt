-- What may arrive stays good, where what it says of the ends stays so.
use Rattle.std.proofs.Common.{◌≢◌, ℕ, ◌<◌, ◌≤◌, Option, None, Some, List, arith}
use Rattle.std.specs.Prelude.{All}
use Rattle.std.proofs.lemmas.List.Elements.{All-push}
use Rattle.chan_model.specs.declared.signal.OnPath.{OnPath}
use Rattle.chan_model.specs.Signals.{Down}
use Rattle.chan_model.specs.declared.signal.Down.TheVariants as down
use Rattle.chan_model.specs.Signals.{Up}
use Rattle.chan_model.specs.declared.signal.Up.TheVariants as up
use Rattle.agreement_laws.specs.Links.{with_signal, with_accepted}
use Rattle.agreement_laws.specs.Invariant.{Ends, IsSelectGood, IsReleaseGood, IsResetGood, IsGrantGood, IsDownGood, IsAcceptGood, IsNotOwned, IsBackGood, IsUpGood}

pub downs-by : (e x : Ends) → e.drawn ≤ x.drawn → e.restarts ≤ x.restarts
    → ((q t : ℕ) → t ≤ e.drawn → IsSelectGood e.phase e.floor q t → IsSelectGood x.phase x.floor q t)
    → ((t : ℕ) → t ≤ e.drawn → IsReleaseGood e.phase t → IsReleaseGood x.phase t)
    → ((r b : ℕ) → r ≤ e.drawn → b ≤ e.restarts → IsResetGood e r b → IsResetGood x r b)
    → ((t c : ℕ) → t ≤ e.drawn → IsGrantGood e.phase e.last e.seen t c → IsGrantGood x.phase x.last x.seen t c)
    → (p : ℕ) (d : Down) → IsDownGood e p d → IsDownGood x p d
downs-by e x n b select release reset grant p (down.Select t) g = (omega (arith, n, g.0), select p t g.0 g.1)
downs-by e x n b select release reset grant p (down.Release t) g = (omega (arith, n, g.0), release t g.0 g.1)
downs-by e x n b select release reset grant p (down.Reset r c) g = (omega (arith, n, g.0), omega (arith, b, g.1), reset r c g.0 g.1 g.2)
downs-by e x n b select release reset grant p (down.Grant t c) g = (omega (arith, n, g.0), grant t c g.0 g.1)
downs-by e x n b select release reset grant p (down.Command t m code room) g = tt
downs-by e x n b select release reset grant p (down.Refuse t c) g = tt
downs-by e x n b select release reset grant p (down.Took t m s room) g = tt
downs-by e x n b select release reset grant p (down.Give bytes t c m s) g = tt
downs-by e x n b select release reset grant p (down.Halt t) g = tt
downs-by e x n b select release reset grant p (down.Got a) g = tt

-- an Accept that is sent is of a number above the floor
abbrev pub IsNewSignal : ℕ → ℕ → Up → Type 0
IsNewSignal f g (up.Accept t) = (f < t) × (t ≤ g)
IsNewSignal f g signal = Unit {0}

abbrev pub IsNew : ℕ → ℕ → Option (OnPath Up) → Type 0
IsNew f g None = Unit {0}
IsNew f g (Some x) = IsNewSignal f g x.signal

passed-signal : (f g t : ℕ) (ts : List ℕ) (u : Up) → IsNewSignal f g u → t ≤ f → All (λ a. a ≢ t) ts → All (λ a. a ≢ t) (with_signal ts u)
passed-signal f g t ts (up.Accept v) new le all = All-push (λ a. a ≢ t) ts v all (λ e. omega (arith, new.0))
passed-signal f g t ts (up.Busy v) new le all = all
passed-signal f g t ts (up.Leave v c) new le all = all
passed-signal f g t ts (up.Back v c) new le all = all
passed-signal f g t ts (up.Data load v c m s) new le all = all
passed-signal f g t ts (up.End v m status more) new le all = all
passed-signal f g t ts (up.Released v) new le all = all
passed-signal f g t ts (up.Cleared v) new le all = all
passed-signal f g t ts (up.Notice v) new le all = all
passed-signal f g t ts (up.Attn v status) new le all = all

pub passed : (f g t : ℕ) (ts : List ℕ) (sent : Option (OnPath Up)) → IsNew f g sent → t ≤ f → All (λ a. a ≢ t) ts → All (λ a. a ≢ t) (with_accepted ts sent)
passed f g t ts None new le all = all
passed f g t ts (Some x) new le all = passed-signal f g t ts x.signal new le all

pub ups-by : (e x : Ends) (sent : Option (OnPath Up)) → e.floor ≤ x.floor → e.restarts ≤ x.restarts → IsNew e.floor x.floor sent
    → ((t : ℕ) → t ≤ e.floor → IsAcceptGood e.phase e.seen t → IsAcceptGood x.phase x.seen t)
    → ((t : ℕ) → t ≤ e.floor → IsNotOwned e.seen t → IsNotOwned x.seen t)
    → ((p t c : ℕ) → t ≤ e.floor → IsBackGood e.seen p t c → IsBackGood x.seen p t c)
    → (ts : List ℕ) (p : ℕ) (u : Up) → IsUpGood e ts p u → IsUpGood x (with_accepted ts sent) p u
ups-by e x sent f b new accept owned back ts p (up.Accept t) g = (omega (arith, f, g.0), accept t g.0 g.1)
ups-by e x sent f b new accept owned back ts p (up.Busy t) g = (omega (arith, f, g.0), owned t g.0 g.1, passed e.floor x.floor t ts sent new g.0 g.2)
ups-by e x sent f b new accept owned back ts p (up.Leave t c) g = tt
ups-by e x sent f b new accept owned back ts p (up.Back t c) g = (omega (arith, f, g.0), back p t c g.0 g.1)
ups-by e x sent f b new accept owned back ts p (up.Data load t c m s) g = tt
ups-by e x sent f b new accept owned back ts p (up.End t m status more) g = tt
ups-by e x sent f b new accept owned back ts p (up.Released t) g = (omega (arith, f, g.0), owned t g.0 g.1)
ups-by e x sent f b new accept owned back ts p (up.Cleared r) g = omega (arith, f, g)
ups-by e x sent f b new accept owned back ts p (up.Notice c) g = omega (arith, b, g)
ups-by e x sent f b new accept owned back ts p (up.Attn a status) g = tt

-- signals of which nothing is said
abbrev pub IsPlainDown : Down → Type 0
IsPlainDown (down.Select t) = ⊥
IsPlainDown (down.Release t) = ⊥
IsPlainDown (down.Reset r b) = ⊥
IsPlainDown (down.Grant t c) = ⊥
IsPlainDown signal = Unit {0}

pub plain-down : (e : Ends) (p : ℕ) (d : Down) → IsPlainDown d → IsDownGood e p d
plain-down e p (down.Select t) g = absurd g
plain-down e p (down.Release t) g = absurd g
plain-down e p (down.Reset r b) g = absurd g
plain-down e p (down.Grant t c) g = absurd g
plain-down e p (down.Command t m code room) g = tt
plain-down e p (down.Refuse t c) g = tt
plain-down e p (down.Took t m s room) g = tt
plain-down e p (down.Give bytes t c m s) g = tt
plain-down e p (down.Halt t) g = tt
plain-down e p (down.Got a) g = tt

abbrev pub IsPlainUp : Up → Type 0
IsPlainUp (up.Leave t c) = Unit {0}
IsPlainUp (up.Data load t c m s) = Unit {0}
IsPlainUp (up.End t m status more) = Unit {0}
IsPlainUp (up.Attn a status) = Unit {0}
IsPlainUp signal = ⊥

pub plain-up : (e : Ends) (ts : List ℕ) (p : ℕ) (u : Up) → IsPlainUp u → IsUpGood e ts p u
plain-up e ts p (up.Accept t) g = absurd g
plain-up e ts p (up.Busy t) g = absurd g
plain-up e ts p (up.Leave t c) g = tt
plain-up e ts p (up.Back t c) g = absurd g
plain-up e ts p (up.Data load t c m s) g = tt
plain-up e ts p (up.End t m status more) g = tt
plain-up e ts p (up.Released t) g = absurd g
plain-up e ts p (up.Cleared r) g = absurd g
plain-up e ts p (up.Notice b) g = absurd g
plain-up e ts p (up.Attn a status) g = tt

pub plain-new : (f g : ℕ) (u : Up) → IsPlainUp u → IsNewSignal f g u
plain-new f g (up.Accept t) h = absurd h
plain-new f g (up.Busy t) h = tt
plain-new f g (up.Leave t c) h = tt
plain-new f g (up.Back t c) h = tt
plain-new f g (up.Data load t c m s) h = tt
plain-new f g (up.End t m status more) h = tt
plain-new f g (up.Released t) h = tt
plain-new f g (up.Cleared r) h = tt
plain-new f g (up.Notice b) h = tt
plain-new f g (up.Attn a status) h = tt
