-- One more server that is asked.
use Rattle.std.proofs.Common.{◌≡◌, ℕ, List, [], ◌∷◌, ◌++◌, Some, refl, subst, sym, ap, ◌∙◌}
use Rattle.std.specs.Prelude.{slice_get}
use Rattle.ddt_path.specs.declared.locator.Locator.{Locator}
use Rattle.ddt_register.specs.declared.register.Register.{Register}
use Rattle.ddt_path.specs.declared.record.ReferralRecord.{ReferralRecord}
use Rattle.ddt_check.specs.Says.{says}
use Rattle.ddt_report.specs.declared.pictures.hops.Hop.{Hop}
use Rattle.ddt_report.specs.Pictures.Hops.{AreHops}

-- the set of which the next server is the first
abbrev pub next_set : List Locator → List Hop → List Locator
next_set servers [] = servers
next_set servers (hop ∷ hops) = next_set hop.said.servers hops

pub next_more : (servers : List Locator) (hops : List Hop) (hop : Hop) → next_set servers (hops ++ hop ∷ []) ≡ hop.said.servers
next_more servers [] hop = refl
next_more servers (first ∷ hops) hop = next_more first.said.servers hops hop

pub hops_more : (r : Register) (x : List ℕ) (servers : List Locator) (hops : List Hop) (hop : Hop) → AreHops r x servers hops
    → slice_get (next_set servers hops) 0 ≡ Some hop.server → hop.said ≡ says r hop.server x
    → AreHops r x servers (hops ++ hop ∷ [])
hops_more r x servers [] hop h first said = (first, said, tt)
hops_more r x servers (before ∷ hops) hop h first said = (h.0, h.1, hops_more r x before.said.servers hops hop h.2 first said)

pub one_more : (r : Register) (x : List ℕ) (servers set : List Locator) (hops after : List Hop) (server : Locator)
    (said : ReferralRecord) → AreHops r x servers hops × (next_set servers hops ≡ set) → slice_get set 0 ≡ Some server
    → said ≡ says r server x → after ≡ hops ++ record { server = server; said = said } ∷ []
    → AreHops r x servers after × (next_set servers after ≡ said.servers)
one_more r x servers set hops after server said so_far first is more =
    let hop : Hop = record { server = server; said = said } in (
      subst (AreHops r x servers) (sym more)
          (hops_more r x servers hops hop so_far.0 (ap (λ (s : List Locator). slice_get s 0) so_far.1 ∙ first) is),
      ap (next_set servers) more ∙ next_more servers hops hop,
    )
