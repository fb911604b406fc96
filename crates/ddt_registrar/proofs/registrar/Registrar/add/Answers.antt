use Rattle.std.proofs.Common.{◌≡◌, [], ◌∷◌, ◌++◌, List, ℕ, length, Option, sym, ap, ◌∙◌, arith}
use Rattle.std.specs.Prelude.{is_some}
use Rattle.std.specs.FinMap.{insert, len}
use Rattle.std.proofs.lemmas.Bool.{false≢true}
use Rattle.ddt_registrar.specs.State.{Site}
use Rattle.ddt_registrar.proofs.SiteLemmas.{added_is_found, as_many}
use Rattle.ddt_registrar.proofs.registrar.Registrar.add.Goals as goal

pub invariant_of-self-2 : goal.invariant_of-self-2
invariant_of-self-2 g c =
    let sites : List Site = c.self.inside.sites.items in
    let site : Site = c.args.site in
    let many : c.len-2.result ≡ length sites = omega (arith, c.len-2.ensures, ap (λ (ss : List Site). length ss) c.reserve.ensures.items) in
    let prefix : c.site.inside.prefix ≡ site.prefix = ap (λ (s : Site). s.prefix) c.site.view_is in
    let index = c.in-Ok.ensures.inserted
    ∙ ap (λ (n : ℕ). insert (g.M.PrefixMap.content c.self.inside.places) c.site.inside.prefix n) many
    ∙ ap (λ (q : List ℕ). insert (g.M.PrefixMap.content c.self.inside.places) q (length sites)) prefix in
    let items : c.push.new.self.items ≡ sites ++ site ∷ [] = c.in-Ok-push.ensures.items ∙ ap (λ (ss : List Site). ss ++ site ∷ []) c.reserve.ensures.items in
    let none = rw prefix at (sym c.in-None.ensures) in
    rw (index, items) (added_is_found _ sites c.self.invariant site (rw (← c.self.view_is) at none))

pub insert-requires : goal.insert-requires
insert-requires g c =
    let sites : List Site = c.self.inside.sites.items in
    let many : len (g.M.PrefixMap.content c.self.inside.places) ≡ length sites = as_many _ sites c.self.invariant in
    omega (arith, many, c.len.ensures, c.if-len-ge-MOST_ENTRIES.false)

pub returns-in-Some-clause-full : goal.returns-in-Some-clause-full
returns-in-Some-clause-full g c =
    let prefix = ap (λ (s : Site). s.prefix) c.site.view_is in
    let some = rw prefix at (sym c.in-Some.ensures) in (
      λ e. absurd cc,
      λ h. absurd (false≢true (sym h.0 ∙ ap (λ (o : Option Site). is_some o) some)),
    )

pub returns-then-len-ge-MOST_ENTRIES-clause-twice : goal.returns-then-len-ge-MOST_ENTRIES-clause-twice
returns-then-len-ge-MOST_ENTRIES-clause-twice g c =
    let prefix = ap (λ (s : Site). s.prefix) c.site.view_is in
    let none = rw prefix at (sym c.in-None.ensures) in
    (λ e. absurd cc, λ h. absurd (false≢true (sym (ap (λ (o : Option Site). is_some o) none) ∙ h)))

pub returns-then-is_err-clause-twice : goal.returns-then-is_err-clause-twice
returns-then-is_err-clause-twice g c =
    let prefix = ap (λ (s : Site). s.prefix) c.site.view_is in
    let none = rw prefix at (sym c.in-None.ensures) in
    (λ e. absurd cc, λ h. absurd (false≢true (sym (ap (λ (o : Option Site). is_some o) none) ∙ h)))

pub returns-in-Err-clause-twice : goal.returns-in-Err-clause-twice
returns-in-Err-clause-twice g c =
    let prefix = ap (λ (s : Site). s.prefix) c.site.view_is in
    let none = rw prefix at (sym c.in-None.ensures) in
    (λ e. absurd cc, λ h. absurd (false≢true (sym (ap (λ (o : Option Site). is_some o) none) ∙ h)))

pub returns-clause-twice : goal.returns-clause-twice
returns-clause-twice g c =
    let prefix = ap (λ (s : Site). s.prefix) c.site.view_is in
    let none = rw prefix at (sym c.in-None.ensures) in
    (λ e. absurd cc, λ h. absurd (false≢true (sym (ap (λ (o : Option Site). is_some o) none) ∙ h)))
