-- Subchannels by their places and names.
use Rattle.std.proofs.Common.{◌≡◌, sym, ◌∙◌, ap, subst, ℕ, ◌==◌, true, Option, None, Some, List}
use Rattle.std.specs.Prelude.{slice_get}
use Rattle.std.proofs.lemmas.Bool.{eqb-true, eq-eqb, and_parts}
use Rattle.channel_config.specs.declared.names.SubchannelId.{SubchannelId}
use Rattle.run_laws.specs.StateClaims.{is_same_id, is_id}
use Rattle.step_laws.proofs.Indices.{both-true, first-passes}
use Rattle.subchannel_model.specs.declared.state.Subchannel.{Subchannel}
use Rattle.subchannel_model.specs.Indices.{is_named, index_in, index_of_id}

pub same-id : (a b : SubchannelId) → is_same_id a b ≡ true → a ≡ b
same-id a b e =
    let both = and_parts (a.set == b.set) (a.number == b.number) e in
    let set : a.set ≡ b.set = eqb-true a.set b.set both.0 in
    let number : a.number ≡ b.number = eqb-true a.number b.number both.1 in
    ap (λ (n : ℕ). record a { set = n }) set ∙ ap (λ (n : ℕ). record b { number = n }) number

pub named-both : (id named : SubchannelId) (sub : Subchannel) → is_named id sub ≡ true → is_named named sub ≡ true → is_same_id named id ≡ true
named-both id named sub e f =
    let a : (sub.setup.id.set ≡ id.set) × (sub.setup.id.number ≡ id.number) = parts id e in
    let b : (sub.setup.id.set ≡ named.set) × (sub.setup.id.number ≡ named.number) = parts named f in
    both-true (named.set == id.set) (named.number == id.number) (eq-eqb named.set id.set (sym b.0 ∙ a.0)) (eq-eqb named.number id.number (sym b.1 ∙ a.1))
  where
    parts : (x : SubchannelId) → is_named x sub ≡ true → (sub.setup.id.set ≡ x.set) × (sub.setup.id.number ≡ x.number)
    parts x h =
        let p = and_parts (sub.setup.id.set == x.set) (sub.setup.id.number == x.number) h in
        (eqb-true sub.setup.id.set x.set p.0, eqb-true sub.setup.id.number x.number p.1)

pub named-is : (subs : List Subchannel) (id : SubchannelId) (x : Option SubchannelId) (index : ℕ) (sub : Subchannel) → index_of_id subs x ≡ Some index →
    index_in id subs ≡ Some index → slice_get subs index ≡ Some sub → is_id x id ≡ true
named-is subs id None index sub at mine there = absurd (cc at)
named-is subs id (Some named) index sub at mine there =
    named-both id named sub (first-passes (is_named id) subs index sub mine there) (first-passes (is_named named) subs index sub at there)

pub named-index : (subs : List Subchannel) (id : SubchannelId) (x : Option SubchannelId) (index : ℕ) → index_of_id subs x ≡ Some index → is_id x id ≡ true →
    index_in id subs ≡ Some index
named-index subs id None index at e = absurd (cc e)
named-index subs id (Some named) index at e = subst (λ (y : SubchannelId). index_in y subs ≡ Some index) (same-id named id e) at
