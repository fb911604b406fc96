use Rattle.std.proofs.Common.{◌≡◌, [], sym, ◌∙◌, rules}
use Rattle.std.proofs.lemmas.Bool.{both_ways}
use Rattle.ddt_plan.specs.Fast.{delegations_of, states_of}
use Rattle.ddt_plan.proofs.SideLemmas.{is_divided, empty_is, delegation_prefix, state_prefix}
use Rattle.ddt_plan.proofs.AgreeLemmas.{Agree, unmarked, nothing_apart}
use Rattle.ddt_plan.proofs.walk.nothing_changes.Goals as goal
use Rattle.ddt_plan.proofs.walk.nothing_changes.Goals.{then-is_empty, else-is_empty}

pub returns-then-are_same : goal.returns-then-are_same
returns-then-are_same c = λ same reading.
    let r = c.args.before.now in
    let s = c.args.after.now in
    let q = c.args.whole in
    let is = c.requires.differing in
    let marked = c.args.sides.now.differing.now in
    let old = is_divided r q c.args.sides.now.before c.in-Divided-Divided.old c.requires.before c.in-Divided-Divided.is-0 in
    let new = is_divided s q c.args.sides.now.after c.in-Divided-Divided.new c.requires.after c.in-Divided-Divided.is-1 in
    elim c.if-is_empty.branch [
      | then-is_empty w ↦
          let none : marked ≡ [] = empty_is marked (sym c.is_empty.ensures ∙ w.if-is_empty.true) in
          let zone = w.are_same.ensures.0 (sym w.value-is ∙ c.if-are_same.true) in
          let said = c.are_same-then-are_same.ensures.0 same in
          let site : c.in-Divided-Divided.old.site ≡ c.in-Divided-Divided.new.site = search rules in
          let to : Agree r s q = record {
            accepted = c.register-old.ensures.accepted;
            zones = unmarked delegation_prefix (delegations_of r) (delegations_of s) q marked is.zones_gone none;
            sites = unmarked state_prefix (states_of r) (states_of s) q marked is.sites_gone none;
            zone = sym old.zone ∙ zone ∙ new.zone;
            site = sym old.site ∙ site ∙ new.site;
            divided = old.divided;
          } in
          let back : Agree s r q = record {
            accepted = c.register-new.ensures.accepted;
            zones = unmarked delegation_prefix (delegations_of s) (delegations_of r) q marked is.zones_new none;
            sites = unmarked state_prefix (states_of s) (states_of r) q marked is.sites_new none;
            zone = sym to.zone;
            site = sym to.site;
            divided = new.divided;
          } in
          nothing_apart r s q to back reading
      | else-is_empty w ↦ absurd (both_ways c.is_empty.result w.if-is_empty.false (sym w.value-is ∙ c.if-are_same.true))
    ]
