use Rattle.std.proofs.Common.{◌≡◌, ◌+◌, ◌++◌, ◌∷◌, [], ℕ, List, Option, length, sym, ap, subst, ◌∙◌, arith}
use Rattle.std.specs.Prelude.{find}
use Rattle.std.proofs.lemmas.List.{append-nil, append_assoc}
use Rattle.ddt_path.specs.Covers.{is_same_path}
use Rattle.ddt_map_register.specs.RegisterRecord.{RegisterRecord}
use Rattle.ddt_registrar.specs.declared.site_change.SiteChange.{SiteChange}
use Rattle.ddt_registrar.specs.Checks.{site_of}
use Rattle.ddt_registrar.specs.Prepared.{IsPrepared, ArePrepared}
use Rattle.ddt_registrar.specs.Sender.{sender_of}
use Rattle.ddt_registrar.specs.State.{Site}
use Rattle.ddt_registrar.proofs.PreparedLemmas.{prepared_more}
use Rattle.ddt_registrar.proofs.registrar.Registrar.prepare.Goals as goal

pub loop-record-preserved : goal.loop-record-preserved
loop-record-preserved g c =
    let so_far = c.loop-record.invariant in
    let a = c.args.arrival.now in
    let who = sender_of a.message.now.id a.from in
    let sites : List Site = c.args.self.now in
    let done : List RegisterRecord = so_far.0 in
    let r : RegisterRecord = c.in-Some.record in
    let changes : List SiteChange = c.loop-record.changes.items in
    let change : SiteChange = c.in_ok-change.change in
    let long : c.len.result ≡ 0 + length changes = omega (arith, c.len.ensures) in
    let found = subst (λ (site : Option Site). IsPrepared a.moment a.message.now who site c.len.result r change) c.site-site.ensures c.in_ok-change.ensures in
    let of_site =
    subst (λ (q : List ℕ). IsPrepared a.moment a.message.now who (find (λ (s : Site). is_same_path s.prefix q) sites) c.len.result r change) c.prefix.ensures found in
    let one = subst (λ (k : ℕ). IsPrepared a.moment a.message.now who (site_of r sites) k r change) long of_site in (
      done ++ r ∷ [],
      so_far.1 ∙ ap (λ (rs : List RegisterRecord). done ++ rs) c.in-Some.ensures.steps ∙ sym (append_assoc done (r ∷ []) _),
      subst (λ (cs : List SiteChange). ArePrepared a.moment a.message.now who sites 0 (done ++ r ∷ []) cs) (sym c.in_ok-push.ensures.items)
          (prepared_more a.moment a.message.now who sites 0 done changes r change so_far.2 one),
    )

pub returns : goal.returns
returns g c =
    let so_far = c.loop-record.invariant in
    let a = c.args.arrival.now in
    let who = sender_of a.message.now.id a.from in
    let done : List RegisterRecord = so_far.0 in
    let all = so_far.1 ∙ ap (λ (rs : List RegisterRecord). done ++ rs) c.in_default.ensures.steps.0 ∙ append-nil done in
    subst (λ (rs : List RegisterRecord). ArePrepared a.moment a.message.now who c.args.self.now 0 rs c.loop-record.changes.items) (sym all) so_far.2
