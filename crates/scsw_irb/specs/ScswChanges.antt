-- What is left of a subchannel-status word (SA22-7832, chapter 16) once the bits of one mask of word 0 are cleared and those of
-- another are set, and what a test of word 0 under a mask finds.
use Rattle.std.specs.Prelude.{ℕ, ◌==◌, Bool, true, false, ◌&&◌, ◌||◌, if◌then◌else◌, List, [], ◌∷◌}
use Rattle.zbits.specs.Bits.{field_of}
use Rattle.zbits.specs.Flags.{changed_flag, flag_of}
use Rattle.scsw_irb.specs.declared.scsw.Scsw.{Scsw}
use Rattle.scsw_irb.specs.declared.scsw.DeferredCode.{DeferredCode}
use Rattle.scsw_irb.specs.declared.scsw.DeferredCode.TheVariants.{Zero}

-- masks that leave the key, clear the deferred code whole or not, and set neither that nor a bit that is always zero
abbrev pub is_change : ℕ → ℕ → Bool
is_change clear set =
    (field_of clear 0 3 == 0) && ((field_of clear 6 7 == 0 || field_of clear 6 7 == 3)
    && ((field_of set 0 3 == 0) && ((field_of set 5 5 == 0) && ((field_of set 6 7 == 0) && ((field_of set 13 14 == 0) && (field_of set 16 16 == 0))))))

abbrev pub changed_code : ℕ → DeferredCode → DeferredCode
changed_code clear code = if field_of clear 6 7 == 3 then Zero else code

-- a status word of which each flag is by a rule, told by its bit of word 0, from those of two others; the rest is the second's
abbrev pub flags_by : (ℕ → Bool → Bool → Bool) → Scsw → Scsw → Scsw
flags_by rule x y = record y {
  suspend = rule 4 x.suspend y.suspend;
  format_one = rule 8 x.format_one y.format_one;
  prefetch = rule 9 x.prefetch y.prefetch;
  initial_status = rule 10 x.initial_status y.initial_status;
  address_limit = rule 11 x.address_limit y.address_limit;
  suppress_suspended = rule 12 x.suppress_suspended y.suppress_suspended;
  path_not_operational = rule 15 x.path_not_operational y.path_not_operational;
  functions = record {
    start = rule 17 x.functions.start y.functions.start;
    halt = rule 18 x.functions.halt y.functions.halt;
    clear = rule 19 x.functions.clear y.functions.clear;
  };
  activity = record {
    resume_pending = rule 20 x.activity.resume_pending y.activity.resume_pending;
    start_pending = rule 21 x.activity.start_pending y.activity.start_pending;
    halt_pending = rule 22 x.activity.halt_pending y.activity.halt_pending;
    clear_pending = rule 23 x.activity.clear_pending y.activity.clear_pending;
    subchannel_active = rule 24 x.activity.subchannel_active y.activity.subchannel_active;
    device_active = rule 25 x.activity.device_active y.activity.device_active;
    suspended = rule 26 x.activity.suspended y.activity.suspended;
  };
  status = record {
    alert = rule 27 x.status.alert y.status.alert;
    intermediate = rule 28 x.status.intermediate y.status.intermediate;
    primary = rule 29 x.status.primary y.status.primary;
    secondary = rule 30 x.status.secondary y.status.secondary;
    pending = rule 31 x.status.pending y.status.pending;
  };
}

abbrev pub changed_scsw : ℕ → ℕ → Scsw → Scsw
changed_scsw clear set scsw =
    record (flags_by (λ bit flag same. changed_flag clear set bit flag) scsw scsw) { deferred = changed_code clear scsw.deferred }

-- the flags from bit 8 of word 0 on; Z, E and bit 16 are zero
abbrev pub flags_from_8 : Scsw → List Bool
flags_from_8 s =
    s.format_one ∷ s.prefetch ∷ s.initial_status ∷ s.address_limit ∷ s.suppress_suspended ∷ false ∷ false ∷ s.path_not_operational ∷ false
    ∷ s.functions.start ∷ s.functions.halt ∷ s.functions.clear
    ∷ s.activity.resume_pending ∷ s.activity.start_pending ∷ s.activity.halt_pending ∷ s.activity.clear_pending
    ∷ s.activity.subchannel_active ∷ s.activity.device_active ∷ s.activity.suspended
    ∷ s.status.alert ∷ s.status.intermediate ∷ s.status.primary ∷ s.status.secondary ∷ s.status.pending ∷ []

-- the key and the deferred code are kept whole or not, L, Z, E and bit 16 do not matter
abbrev pub is_keep : ℕ → Bool
is_keep keep = (field_of keep 0 3 == 0 || field_of keep 0 3 == 15) && (field_of keep 6 7 == 0 || field_of keep 6 7 == 3)

abbrev pub chosen_flag : ℕ → ℕ → Bool → Bool → Bool
chosen_flag keep bit old given = if flag_of keep bit then old else given

abbrev pub chosen_key : Bool → Scsw → Scsw → Scsw
chosen_key true old given = record given { key = old.key; key_fits = old.key_fits }
chosen_key false old given = given

-- the given status word, but for the bits of word 0 that are kept of the old one
abbrev pub chosen_scsw : ℕ → Scsw → Scsw → Scsw
chosen_scsw keep old given =
    let deferred = if field_of keep 6 7 == 3 then old.deferred else given.deferred in
    chosen_key (field_of keep 0 3 == 15) old (record (flags_by (chosen_flag keep) old given) { deferred = deferred })
