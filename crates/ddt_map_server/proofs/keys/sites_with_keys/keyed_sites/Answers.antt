use Rattle.std.proofs.Common.{◌≡◌, ◌≢◌, ◌⊎◌, List, ℕ, [], map, Ok, Err, Result, IsPermutation, sym, ap, subst, ◌∙◌}
use Rattle.std.proofs.lemmas.Result.{err_from_is_err_and}
use Rattle.ddt_config.specs.declared.authority.Authority.{Authority}
use Rattle.ddt_config.specs.declared.site_entry.SiteEntry.{SiteEntry}
use Rattle.ddt_registrar.specs.State.{Site}
use Rattle.ddt_map_server.specs.declared.keys.fault.KeysFault.{KeysFault}
use Rattle.ddt_map_server.specs.declared.keys.fault.KeysFault.TheVariants.{Memory}
use Rattle.ddt_map_server.specs.Keys.KeyedSites.{sites_in, keyed, keyed_sites_in, judged_after}
use Rattle.ddt_map_server.specs.Keys.Keyrings.{ring_of, AreInOrder}
use Rattle.ddt_map_server.proofs.KeysLemmas.FillLemmas.{in_order}
use Rattle.ddt_map_server.proofs.KeysLemmas.KeyedLemmas.{each-there, keyed-found, keyed-refused, only_memory}
use Rattle.ddt_map_server.proofs.keys.sites_with_keys.keyed_sites.Goals as goal

pub returns-in_err-keyrings-clause-every : goal.returns-in_err-keyrings-clause-every
returns-in_err-keyrings-clause-every c = λ sites is.
    let authorities = c.args.config.now.authorities in
    let keys = c.args.keys.now in
    let wanted = keyed_sites_in authorities keys in
    let fault = c.in_err-keyrings.field-0.0 in
    let are : c.deref.result.now ≡ sites_in authorities = c.deref.ensures.value ∙ c.in_ok-sites.ensures ∙ ap (λ (l : List Authority). sites_in l) c.as_slice.ensures in
    let refused : fault ≢ Memory → wanted ≡ Err fault = λ ne.
    keyed-refused authorities keys c.deref.result.now c.in_ok-prefixes.prefixes.items are c.in_ok-prefixes.ensures.all fault
    (ap (λ (l : List (List ℕ)). judged_after l [] keys) (sym c.deref-2.ensures.value) ∙ c.in_err-keyrings.ensures.refused ne) in
    let p = err_from_is_err_and c.from_residual-in_err-keyrings.result c.from_residual-in_err-keyrings.ensures.1 in
    let told : c.from_residual-in_err-keyrings.result ≡ Err fault = p.1 ∙ ap (λ (f : KeysFault). Err f) p.2 in
    subst (λ (r : Result (List Site) KeysFault). (r ≡ Ok sites) ⊎ (r ≡ Err Memory)) (sym told) (only_memory wanted fault refused sites is)

pub returns-in_err-keyrings-clause-refused : goal.returns-in_err-keyrings-clause-refused
returns-in_err-keyrings-clause-refused c =
    let authorities = c.args.config.now.authorities in
    let keys = c.args.keys.now in
    let fault = c.in_err-keyrings.field-0.0 in
    let are : c.deref.result.now ≡ sites_in authorities = c.deref.ensures.value ∙ c.in_ok-sites.ensures ∙ ap (λ (l : List Authority). sites_in l) c.as_slice.ensures in
    let p = err_from_is_err_and c.from_residual-in_err-keyrings.result c.from_residual-in_err-keyrings.ensures.1 in
    rw p.1 (subst (λ (f : KeysFault). f ≢ Memory → keyed_sites_in authorities keys ≡ Err f) (sym p.2) (λ ne.
    keyed-refused authorities keys c.deref.result.now c.in_ok-prefixes.prefixes.items are c.in_ok-prefixes.ensures.all fault
    (ap (λ (l : List (List ℕ)). judged_after l [] keys) (sym c.deref-2.ensures.value) ∙ c.in_err-keyrings.ensures.refused ne)))

pub keyed-requires-clause-ordered : goal.keyed-requires-clause-ordered
keyed-requires-clause-ordered c =
    let keys = c.args.keys.now in
    let prefixes = c.in_ok-prefixes.prefixes.items in
    let filled : c.deref-4.result.now ≡ map (ring_of keys) prefixes =
    c.deref-4.ensures.value ∙ c.in_ok-keyrings.ensures.filled ∙ ap (map (ring_of keys)) c.deref-2.ensures.value in
    subst AreInOrder (sym filled) (in_order keys prefixes c.in_ok-prefixes.ensures.sorted)

pub keyed-requires-clause-there : goal.keyed-requires-clause-there
keyed-requires-clause-there c =
    let keys = c.args.keys.now in
    let prefixes = c.in_ok-prefixes.prefixes.items in
    let filled : c.deref-4.result.now ≡ map (ring_of keys) prefixes =
    c.deref-4.ensures.value ∙ c.in_ok-keyrings.ensures.filled ∙ ap (map (ring_of keys)) c.deref-2.ensures.value in
    let same : c.deref.result.now ≡ c.deref-3.result.now = c.deref.ensures.value ∙ sym c.deref-3.ensures.value in
    each-there keys c.deref-3.result.now prefixes c.deref-4.result.now
    (subst (λ (l : List SiteEntry). IsPermutation (map (λ s. s.prefix) l) prefixes) same c.in_ok-prefixes.ensures.all) filled

pub returns-clause-found : goal.returns-clause-found
returns-clause-found c =
    let authorities = c.args.config.now.authorities in
    let keys = c.args.keys.now in
    let prefixes = c.in_ok-prefixes.prefixes.items in
    let are : c.deref.result.now ≡ sites_in authorities = c.deref.ensures.value ∙ c.in_ok-sites.ensures ∙ ap (λ (l : List Authority). sites_in l) c.as_slice.ensures in
    let filled : c.deref-4.result.now ≡ map (ring_of keys) prefixes =
    c.deref-4.ensures.value ∙ c.in_ok-keyrings.ensures.filled ∙ ap (map (ring_of keys)) c.deref-2.ensures.value in
    let same : c.deref.result.now ≡ c.deref-3.result.now = c.deref.ensures.value ∙ sym c.deref-3.ensures.value in
    keyed-found authorities keys c.deref.result.now prefixes are c.in_ok-prefixes.ensures.all
    (ap (λ (l : List (List ℕ)). judged_after l [] keys) (sym c.deref-2.ensures.value) ∙ c.in_ok-keyrings.ensures.judged)
    ∙ ap (λ (l : List SiteEntry). Ok (keyed keys l)) same
    ∙ ap (λ (l : List Site). Ok l) (sym (c.in_ok-keyed.ensures keys prefixes filled))
