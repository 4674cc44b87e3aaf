-- The events of storage, which change no subchannel.
use Rattle.std.proofs.Common.{◌≡◌, refl, sym, ◌∙◌, ap, ℕ, Result, Ok, Err, List}
use Rattle.storage_keys.specs.declared.key.Key.{Key}
use Rattle.storage_keys.specs.declared.StorageFault.{StorageFault}
use Rattle.storage_keys.specs.Storage.{Contents, put, key_set, prefix_set, shown}
use Rattle.chan_model.specs.declared.fault.Fault.{Fault}
use Rattle.chan_events.specs.Events.{Event}
use Rattle.chan_events.specs.declared.event.Event.TheVariants as event
use Rattle.chan_events.specs.Replies.{Reply}
use Rattle.interruptions.specs.Requests.{WaitingRequests}
use Rattle.subchannel_model.specs.declared.state.Subchannel.{Subchannel}
use Rattle.machine_model.specs.Requests.{requests_dropped}
use Rattle.machine_model.specs.State.{State}
use Rattle.machine_model.specs.StorageSteps.{storage_result, put_result, key_result, prefix_result, show_result, show_result_of}
use Rattle.machine_model.specs.Steps.{Does, Performs}
use Rattle.machine_model.specs.Results.{Outcome}
use Rattle.signal_step.specs.Giving.{Gives}
use Rattle.machine.proofs.Lifting.{unchanged}

-- the subchannels that an outcome leaves
abbrev subs-of : State → Outcome → List Subchannel
subs-of s (Ok t) = t.state.subs
subs-of s (Err f) = s.subs

kept : (s : State) (outcome : Outcome) (r : Result Reply Fault) (new : State) → subs-of s outcome ≡ s.subs → Gives s outcome r new → new.subs ≡ s.subs
kept s outcome (Ok x) new same g = ap (subs-of s) (sym g) ∙ same
kept s outcome (Err f) new same g = ap (λ (m : State). m.subs) g.1

stays : (s : State) (e : Event) (outcome : Outcome) (r : Result Reply Fault) (new : State) → Does s e outcome →
    ((x : Reply) (w : WaitingRequests) → requests_dropped s e x w ≡ w) → subs-of s outcome ≡ s.subs → Gives s outcome r new → Performs s e r new
stays s e outcome r new does keeps same g = unchanged s e outcome r new does g (kept s outcome r new same g) keeps

stored : (s : State) (x : Result Contents StorageFault) → subs-of s (storage_result s x) ≡ s.subs
stored s (Ok storage) = refl
stored s (Err f) = refl

told : (s : State) (x : Result (List ℕ) StorageFault) → subs-of s (show_result_of s x) ≡ s.subs
told s (Ok bytes) = refl
told s (Err f) = refl

pub put_performs : (s : State) (address : ℕ) (bytes : List ℕ) (r : Result Reply Fault) (new : State) → Gives s (put_result s address bytes) r new →
    Performs s (event.Put address bytes) r new
put_performs s address bytes r new g =
    stays s (event.Put address bytes) (put_result s address bytes) r new refl (λ x w. refl) (stored s (put s.storage address bytes)) g

pub key_performs : (s : State) (address : ℕ) (key : Key) (r : Result Reply Fault) (new : State) → Gives s (key_result s address key) r new →
    Performs s (event.SetKey address key) r new
key_performs s address key r new g =
    stays s (event.SetKey address key) (key_result s address key) r new refl (λ x w. refl) (stored s (key_set s.storage address key)) g

pub prefix_performs : (s : State) (cpu address : ℕ) (r : Result Reply Fault) (new : State) → Gives s (prefix_result s cpu address) r new →
    Performs s (event.SetPrefix cpu address) r new
prefix_performs s cpu address r new g =
    stays s (event.SetPrefix cpu address) (prefix_result s cpu address) r new refl (λ x w. refl) (stored s (prefix_set s.storage cpu address)) g

pub show_performs : (s : State) (address count : ℕ) (r : Result Reply Fault) (new : State) → Gives s (show_result s address count) r new →
    Performs s (event.Show address count) r new
show_performs s address count r new g =
    stays s (event.Show address count) (show_result s address count) r new refl (λ x w. refl) (told s (shown s.storage address count)) g
