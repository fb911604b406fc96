use Rattle.std.proofs.Common.{ℕ, List, find, refl, sym, ap, ◌∙◌}
use Rattle.std.specs.Option.{option_map}
use Rattle.std.proofs.lemmas.List.{take_all}
use Rattle.ddt_path.specs.declared.locator.Locator.{Locator}
use Rattle.ddt_path.specs.Covers.{is_same_path}
use Rattle.ddt_path.specs.laws.Member.{in_at}
use Rattle.ddt_register.specs.declared.group.Group.{Group}
use Rattle.ddt_register.specs.declared.register.Register.{Register}
use Rattle.ddt_check.specs.laws.Kept.{server_set}
use Rattle.ddt_organisations.specs.declared.seam.items_by_key.Servers.{Servers}
use Rattle.ddt_organisations.specs.Seam.Joined.{servers_of}
use Rattle.ddt_organisations.proofs.SeamLemmas.FirstLemmas.{key_put, key_kept}
use Rattle.ddt_organisations.proofs.seam.items_by_key.servers_by_name.Goals as goal
use Rattle.ddt_organisations.proofs.seam.items_by_key.servers_by_name.Goals.{then-not-contains_key+in_ok-insert, else-not-contains_key}

abbrev prefix : Group → List ℕ
prefix a = a.name

abbrev value : Group → Servers
value = servers_of

abbrev set : Group → List Locator → Servers
set a locators = record { kind = a.kind; locators = locators }

pub loop-group-preserved : goal.loop-group-preserved
loop-group-preserved c = λ k.
    let items = c.as_slice-group-items.result.now in
    let i = c.loop-group.group-index in
    let a = c.group-item.result in
    elim c.if-not-contains_key.branch [
      | then-not-contains_key+in_ok-insert w ↦
          rw w.known-is
          (key_put prefix value items i a c.loop-group-test.true c.group-item.is c.loop-group.known w.insert.new.self
          c.loop-group.invariant (set a w.of_few-locators.result) (ap (set a) (w.of_few-locators.ensures ∙ w.as_slice.ensures))
          (sym c.contains_key.ensures ∙ w.if-not-contains_key.true) w.in_ok-insert.ensures.updates k)
      | else-not-contains_key w ↦
          rw w.known-is (key_kept prefix value items i a c.loop-group-test.true c.group-item.is c.loop-group.known
          c.loop-group.known c.loop-group.invariant
          (sym c.contains_key.ensures ∙ w.if-not-contains_key.false) k)
    ]

pub of_few-locators-requires : goal.of_few-locators-requires
of_few-locators-requires c =
    let r = c.args.accepted.now in
    let s = c.group-item.result in
    let same = c.as_slice-group-items.ensures ∙ ap (λ (r : Register). r.groups) c.register.ensures.register in
    rw c.as_slice.ensures (server_set r c.register.ensures.accepted s
    (in_at r.groups c.loop-group.group-index s (rw same at c.loop-group-test.true) (rw same at c.group-item.is))).0.1

pub returns : goal.returns
returns c = λ k.
    let same = c.as_slice-group-items.ensures ∙ ap (λ (r : Register). r.groups) c.register.ensures.register in
    c.loop-group.invariant k
    ∙ ap (λ (zs : List Group). option_map value (find (λ (a : Group). is_same_path a.name k) zs))
    (take_all c.loop-group.group-index c.as_slice-group-items.result.now c.loop-group-test.false ∙ same)
