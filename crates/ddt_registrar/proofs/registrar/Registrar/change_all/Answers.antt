use Rattle.std.proofs.Common.{◌≡◌, [], List, refl, sym, subst, ◌∙◌, rules}
use Rattle.ddt_map_register.specs.RegisterRecord.{RegisterRecord}
use Rattle.ddt_registrar.specs.declared.site_change.SiteChange.{SiteChange}
use Rattle.ddt_registrar.specs.Prepared.{ArePrepared}
use Rattle.ddt_registrar.specs.Sender.{sender_of}
use Rattle.ddt_registrar.proofs.CarryLemmas.{no_items}
use Rattle.ddt_registrar.proofs.PreparedLemmas.{next_is, moved_on, none_left}
use Rattle.ddt_registrar.proofs.registrar.Registrar.change_all.Goals as goal

pub loop-change-init : goal.loop-change-init
loop-change-init g c =
    let a = c.args.arrival.now in
    let who = sender_of a.message.now.id a.from in
    let same : c.into_iter-change-iterator.result.rest.items ≡ c.args.changes.items = search rules in
    let prepared = subst (λ (cs : List SiteChange). ArePrepared a.moment a.message.now who c.args.self.now 0 a.message.now.records cs) (sym same) c.requires in
    ((a.message.now.records, prepared, refl), λ o before. before)

pub change_one-requires : goal.change_one-requires
change_one-requires g c =
    let so_far = c.loop-change.invariant.0 in
    let a = c.args.arrival.now in
    let who = sender_of a.message.now.id a.from in
    let left : List RegisterRecord = so_far.0 in
    let prepared = subst (λ (cs : List SiteChange). ArePrepared a.moment a.message.now who c.loop-change.self 0 left cs) c.in-Some.ensures.steps.0 so_far.1 in
    (next_is a.moment a.message.now who c.loop-change.self left c.in-Some.change _ prepared).room

pub loop-change-preserved : goal.loop-change-preserved
loop-change-preserved g c =
    let so_far = c.loop-change.invariant.0 in
    let a = c.args.arrival.now in
    let who = sender_of a.message.now.id a.from in
    let left : List RegisterRecord = so_far.0 in
    let prepared = subst (λ (cs : List SiteChange). ArePrepared a.moment a.message.now who c.loop-change.self 0 left cs) c.in-Some.ensures.steps.0 so_far.1 in
    let next = next_is a.moment a.message.now who c.loop-change.self left c.in-Some.change _ prepared in (
      moved_on a.moment a.message.now who c.loop-change.self left c.in-Some.change _ c.change_one.new.self next c.change_one.ensures.changed _ so_far.2,
      λ o before. c.change_one.ensures.follows o (c.loop-change.invariant.1 o before),
    )

pub returns-clause-changed : goal.returns-clause-changed
returns-clause-changed g c =
    let so_far = c.loop-change.invariant.0 in
    let a = c.args.arrival.now in
    let who = sender_of a.message.now.id a.from in
    let rest = c.loop-change.change-iterator.rest in
    let none : rest.items ≡ [] = no_items rest.items (sym rest.ok.0 ∙ c.in-None.ensures.steps.0) in
    let prepared = subst (λ (cs : List SiteChange). ArePrepared a.moment a.message.now who c.loop-change.self 0 so_far.0 cs) none so_far.1 in
    sym (none_left a.moment a.message.now who c.loop-change.self so_far.0 prepared) ∙ so_far.2
