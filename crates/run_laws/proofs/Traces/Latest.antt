-- The block whose data are at hand is the last that took control, and says whether a command is chained to.
use Rattle.std.proofs.Common.{◌≡◌, refl, sym, ◌∙◌, ap, subst, ℕ, ◌+◌, Bool, true, false, List, Option, Some, None}
use Rattle.std.specs.Prelude.{if◌then◌else◌, is_some, not, ◌&&◌, ◌||◌}
use Rattle.orb_block.specs.declared.Orb.{Orb}
use Rattle.ccw_codec.specs.declared.Ccw.{Ccw}
use Rattle.ccw_walk.specs.declared.program.Latest.{Latest}
use Rattle.ccw_walk.specs.declared.program.Reading.{Reading}
use Rattle.ccw_walk.specs.declared.program.Reading.TheVariants.{Takes}
use Rattle.ccw_walk.specs.Sequences.{Sequence, Nothing, ◌▸◌}
use Rattle.ccw_walk.specs.Acts.{Act, Block, Unfetched, Used_up, End, Word}
use Rattle.ccw_walk.specs.Blocks.{reads}
use Rattle.ccw_walk.specs.Programs.{Command, code, role_of, latest, latest_after, next_ended, commands, commands_after}
use Rattle.idaw.specs.Places.{Reach, reach_with_word}
use Rattle.data_move.specs.declared.transfer.Transfer.{Transfer}
use Rattle.run_laws.specs.DataAreas.{reach, data_areas, reaches_after, word_after}
use Rattle.run_laws.proofs.Traces.Ties.{HasCode, IsMovedTo, Tied, ccw-of}

-- some command began
abbrev HasBegun : Sequence Command → Type 0
HasBegun Nothing = ⊥
HasBegun (cs ▸ c) = Unit {0}

code-begun : (cs : Sequence Command) (c : ℕ) → HasCode cs c → HasBegun cs
code-begun Nothing c h = h
code-begun (xs ▸ x) c h = tt

-- this block took control last
abbrev pub IsLatest : Option Latest → Ccw → Type 0
IsLatest None ccw = ⊥
IsLatest (Some last) ccw = last.ccw ≡ ccw

abbrev HasLatest : Sequence Command → Sequence Reach → Option Latest → Type 0
HasLatest cs ds last = (r : Reach) (rs : Sequence Reach) → ds ≡ rs ▸ r → HasBegun cs → IsLatest last r.ccw

block-latest : (address : ℕ) (chained : Bool) (cs : Sequence Command) (ds : Sequence Reach) (last : Option Latest) (x : Reading) → HasLatest cs ds last →
    HasLatest (commands_after chained cs x) (reaches_after chained cs ds x) (latest_after last address x)
block-latest address false cs ds last (Takes ccw) f = λ r rs e h. let same : reach ccw.command ccw ≡ r = cc e in ap (λ (x : Reach). x.ccw) same
block-latest address true Nothing ds last (Takes ccw) f = λ r rs e h. absurd h
block-latest address true (cs ▸ c) ds last (Takes ccw) f = λ r rs e h. let same : reach (code c) ccw ≡ r = cc e in ap (λ (x : Reach). x.ccw) same
block-latest address chained cs ds last other f = f

word-latest : (cs : Sequence Command) (ds : Sequence Reach) (word : ℕ) (last : Option Latest) → HasLatest cs ds last → HasLatest cs (word_after ds word) last
word-latest cs Nothing word last f r rs e h = absurd (cc e)
word-latest cs (ds ▸ d) word last f r rs e h =
    let same : reach_with_word d word ≡ r = cc e in
    subst (λ (x : Reach). IsLatest last x.ccw) same (f d ds refl h)

has-latest : (orb : Orb) (acts : Sequence Act) → HasLatest (commands orb acts) (data_areas orb acts) (latest orb acts)
has-latest orb Nothing = λ r rs e h. absurd (cc e)
has-latest orb (acts ▸ Block address bytes) =
    block-latest address (role_of orb acts).chained (commands orb acts) (data_areas orb acts) (latest orb acts) (reads orb (role_of orb acts) bytes) (has-latest orb acts)
has-latest orb (acts ▸ Unfetched address check) = has-latest orb acts
has-latest orb (acts ▸ Used_up) = has-latest orb acts
has-latest orb (acts ▸ End ended) = has-latest orb acts
has-latest orb (acts ▸ Word word) = word-latest (commands orb acts) (data_areas orb acts) word (latest orb acts) (has-latest orb acts)

moved-latest : (orb : Orb) (ds : Sequence Reach) (cs : Sequence Command) (last : Option Latest) (t : Transfer) (ps : List (Option ℕ)) → IsMovedTo orb ds t ps → HasBegun cs →
    HasLatest cs ds last → IsLatest last t.moving.ccw
moved-latest orb Nothing cs last t ps k h f = absurd k
moved-latest orb (rs ▸ r) cs last t ps k h f = subst (λ (x : Ccw). IsLatest last x) (sym (ccw-of r t k.0)) (f r rs refl h)

pub latest-of : (earlier : ℕ) (orb : Orb) (acts : Sequence Act) (ps : List (Option ℕ)) (t : Transfer) → Tied earlier orb acts ps t → IsLatest (latest orb acts) t.moving.ccw
latest-of earlier orb acts ps t k =
    moved-latest orb (data_areas orb acts) (commands orb acts) (latest orb acts) t ps k.spot (code-begun (commands orb acts) t.code k.coded) (has-latest orb acts)

-- by it a command is next where it chains commands, and no data
chains-next : (last : Option Latest) (ccw : Ccw) (modifier : Bool) → IsLatest last ccw →
    is_some (next_ended last (record { goes_on = true; modifier = modifier })) ≡ (ccw.chain_command && not ccw.chain_data)
chains-next None ccw modifier l = absurd l
chains-next (Some last) ccw modifier l = subst (λ (x : Ccw). is_some (next_ended (Some last) (record { goes_on = true; modifier = modifier })) ≡ (x.chain_command && not x.chain_data)) l (by (last.ccw.chain_command && not last.ccw.chain_data))
  where
    by : (b : Bool) → is_some (if b then Some (if modifier then last.address + 16 else last.address + 8) else None) ≡ b
    by true = refl
    by false = refl

parted : (a b u v : Bool) → ((a && not b) && not (u || v)) ≡ (a && (not b && (not u && not v)))
parted false b u v = refl
parted true true u v = refl
parted true false true v = refl
parted true false false v = refl

-- so a command is chained to where by the program one is next and nothing speaks against it
pub next-chains : (earlier : ℕ) (orb : Orb) (acts : Sequence Act) (ps : List (Option ℕ)) (t : Transfer) (modifier u v : Bool) → Tied earlier orb acts ps t →
    (is_some (next_ended (latest orb acts) (record { goes_on = true; modifier = modifier })) && not (u || v))
    ≡ (t.moving.ccw.chain_command && (not t.moving.ccw.chain_data && (not u && not v)))
next-chains earlier orb acts ps t modifier u v k =
    let l : IsLatest (latest orb acts) t.moving.ccw = latest-of earlier orb acts ps t k in
    ap (λ (b : Bool). b && not (u || v)) (chains-next (latest orb acts) t.moving.ccw modifier l) ∙ parted t.moving.ccw.chain_command t.moving.ccw.chain_data u v
