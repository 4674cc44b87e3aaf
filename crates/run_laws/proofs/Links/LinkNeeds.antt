-- What is to be known of a subchannel and the trace of its program.
use Rattle.std.proofs.Common.{◌≡◌, ◌∙◌, ap, subst, ℕ, ◌+◌, ◌-◌, ◌≤◌, true, ◌==◌, ◌&&◌, Option, None, Some, List, ◌∷◌, length, arith}
use Rattle.std.proofs.lemmas.Bool.{eqb-true, and_parts}
use Rattle.chan_model.specs.declared.hold_state.HoldPhase.{HoldPhase}
use Rattle.chan_model.specs.declared.hold_state.HoldPhase.TheVariants as hold
use Rattle.chan_model.specs.HoldTable.{is_connected, is_on}
use Rattle.ccw_walk.specs.Sequences.{Sequence, Nothing, ◌▸◌, count, each}
use Rattle.ccw_walk.specs.Programs.{Command, commands, code}
use Rattle.data_move.specs.declared.transfer.Transfer.{Transfer}
use Rattle.scsw_irb.specs.declared.scsw.Scsw.{Scsw}
use Rattle.subchannel_model.specs.declared.state.ActiveProgram.{ActiveProgram}
use Rattle.subchannel_model.specs.declared.state.PmcwState.{PmcwState}
use Rattle.subchannel_model.specs.declared.state.SubchannelState.{SubchannelState}
use Rattle.run_laws.specs.Traces.{ProgramTrace}
use Rattle.run_laws.proofs.Traces.Ties.{HasCode}
use Rattle.run_laws.proofs.Traces.Holds.{IsPhase, IsDrawn, IsUnheld, IsUntold, HasWork, HeldBy, marked-held}
use Rattle.run_laws.proofs.Commands.UnitGrowth.{later_codes, later-length, later-first, codes_of, IsUnbegun}
use Rattle.run_laws.proofs.Traces.Sequences.{count-each, backward, length-backward}

-- the command at work is the last of the codes, and the last that was sent
pub record IsLast (codes : List ℕ) (sent : ℕ) (t : Transfer) : Type 0 where
  pub before : List ℕ
  pub list : codes ≡ t.code ∷ before
  pub count : length before + 1 ≡ t.command
  pub at : t.command ≡ sent

-- what is to be known of a subchannel and the trace of its program
pub record IsNeeded (k : ProgramTrace) (s : SubchannelState) : Type 0 where
  pub number : k.number ≤ s.drawn
  pub on : (t : ℕ) → is_on s.hold.phase t ≡ true → t ≡ k.number
  pub unbegun : IsUnbegun s.hold.phase k
  pub begun : (b : ActiveProgram) → s.begun ≡ Some b → IsLast (codes_of k) k.sent b.transfer
  pub drawn : IsDrawn s.hold.phase s.drawn

abbrev pub Needs : Option ProgramTrace → SubchannelState → Type 0
Needs None s = IsUntold s
Needs (Some k) s = IsNeeded k s

-- what a subchannel keeps of its program tells this
pub on-number : (phase : HoldPhase) (n : ℕ) (b : Option ActiveProgram) (sent : ℕ) (t : ℕ) → IsPhase phase n b sent → is_on phase t ≡ true → t ≡ n
on-number (hold.On u p c) n b sent t k e = eqb-true t u e ∙ k
on-number other n b sent t k e = absurd (cc e)

-- the program that is connected
pub connected-number : (phase : HoldPhase) (n : ℕ) (b : Option ActiveProgram) (sent p t c : ℕ) → IsPhase phase n b sent → is_connected phase p t c ≡ true → t ≡ n
connected-number (hold.On u q d) n b sent p t c k e = eqb-true t u (and_parts (t == u) ((p == q) && (c == d)) e).0 ∙ k
connected-number other n b sent p t c k e = absurd (cc e)

last-coded : (cs : Sequence Command) (earlier sent : ℕ) (t : Transfer) → HasCode cs t.code → count cs ≡ earlier + t.command → t.command ≡ sent → 1 ≤ sent →
    IsLast (later_codes earlier (backward (each code cs))) sent t
last-coded Nothing earlier sent t c n m l = absurd c
last-coded (cs ▸ x) earlier sent t c n m l =
    let long : length (backward (each code cs)) ≡ count cs = length-backward (each code cs) ∙ count-each code cs in
    let rest : length (later_codes earlier (backward (each code cs))) ≡ length (backward (each code cs)) - earlier = later-length earlier (backward (each code cs)) in
    record {
      before = later_codes earlier (backward (each code cs));
      list = later-first earlier (code x) (backward (each code cs)) (omega (arith, long, n, m, l)) ∙ ap (λ (y : ℕ). y ∷ later_codes earlier (backward (each code cs))) c;
      count = omega (arith, rest, long, n, m, l);
      at = m;
    }

pub work-last : (b : ActiveProgram) (k : ProgramTrace) → HasWork (Some b) k → IsLast (codes_of k) k.sent b.transfer
work-last b k w = last-coded (commands k.orb k.now.acts) k.earlier k.sent b.transfer w.0.tied.coded w.0.tied.number w.1 w.2

begun-last : (b : Option ActiveProgram) (c : ActiveProgram) (k : ProgramTrace) → HasWork b k → b ≡ Some c → IsLast (codes_of k) k.sent c.transfer
begun-last None c k w e = absurd (cc e)
begun-last (Some b) c k w e =
    let same : b ≡ c = cc e in
    subst (λ (x : ActiveProgram). IsLast (codes_of k) k.sent x.transfer) same (work-last b k w)

pub held-needs : (k : Option ProgramTrace) (s : SubchannelState) → HeldBy s k → Needs k s
held-needs None s h = h
held-needs (Some k) s h = record {
  number = h.number;
  on = λ t e. on-number s.hold.phase k.number s.begun k.sent t h.phase e;
  unbegun = λ t p e. (subst (λ (x : HoldPhase). IsPhase x k.number s.begun k.sent) e h.phase).2;
  begun = λ b e. begun-last s.begun b k h.work e;
  drawn = h.drawn;
}

-- the path management and the status word do not matter
pub marked-needs : (k : Option ProgramTrace) (s : SubchannelState) (pmcw : PmcwState) (scsw : Scsw) → Needs k s →
    Needs k (record s { pmcw = pmcw; scsw = scsw })
marked-needs None s pmcw scsw n = marked-held s pmcw scsw None n
marked-needs (Some k) s pmcw scsw n = record { number = n.number; on = n.on; unbegun = n.unbegun; begun = n.begun; drawn = n.drawn }

-- a Reset's number was drawn
reset-drawn : (phase : HoldPhase) (drawn r : ℕ) → phase ≡ hold.Reset r → IsDrawn phase drawn → r ≤ drawn
reset-drawn phase drawn r e d = subst (λ (x : HoldPhase). IsDrawn x drawn) e d

unheld-drawn : (phase : HoldPhase) (drawn r : ℕ) → phase ≡ hold.Reset r → IsUnheld phase drawn → r ≤ drawn
unheld-drawn phase drawn r e d = subst (λ (x : HoldPhase). IsUnheld x drawn) e d

pub reset-needs : (k : Option ProgramTrace) (s : SubchannelState) (r : ℕ) → s.hold.phase ≡ hold.Reset r → Needs k s → r ≤ s.drawn
reset-needs None s r e n = unheld-drawn s.hold.phase s.drawn r e n.phase
reset-needs (Some k) s r e n = reset-drawn s.hold.phase s.drawn r e n.drawn
