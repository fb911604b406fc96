-- Changes that are prepared while others are made: no record adds more than one item to a list of its site.
use Rattle.std.proofs.Common.{◌≡◌, ℕ, ◌+◌, ◌≤◌, ◌<◌, Bool, true, false, cond, List, [], ◌∷◌, ◌++◌, map, length, Option, Some, None, refl, sym, ap, subst, ◌∙◌, arith}
use Rattle.std.specs.Prelude.{not, filter, find, ◌==◌, ◌||◌}
use Rattle.std.specs.Option.{option_map_or}
use Rattle.std.proofs.lemmas.List.Filters.{length-filter_both}
use Rattle.ddt_path.specs.Covers.{is_same_path}
use Rattle.ddt_map_register.specs.MapRegister.{Message}
use Rattle.ddt_map_register.specs.RegisterRecord.{RegisterRecord}
use Rattle.ddt_node.specs.laws.Changed.{at_prefix}
use Rattle.ddt_registrar.specs.declared.sender.Sender.{Sender}
use Rattle.ddt_registrar.specs.declared.site_change.SiteChange.{SiteChange}
use Rattle.ddt_registrar.specs.declared.registration.LastNonce.{LastNonce}
use Rattle.ddt_registrar.specs.Checks.{site_of, nonce_of, is_remembered}
use Rattle.ddt_registrar.specs.Lists.{put_by}
use Rattle.ddt_registrar.specs.Registration.{is_same_registrant, is_of_same_xtr}
use Rattle.ddt_registrar.specs.Sender.{is_same_sender}
use Rattle.ddt_registrar.specs.State.{Key, Registration, Site}
use Rattle.ddt_registrar.specs.Taking.{registration_of, live_after, nonces_after, site_after, sites_after, after_all}
use Rattle.ddt_registrar.specs.Prepared.{HasRoom, IsPrepared, ArePrepared, site_changed, sites_changed}

put_few : {A : Type 0} (same : A → Bool) (new : A) (xs : List A) → length (put_by same new xs) ≤ length xs + 1
put_few same new [] = omega arith
put_few {A = A} same new (x ∷ xs) = go (same x) (put_few same new xs)
  where
    go : (b : Bool) → length (put_by same new xs) ≤ length xs + 1 → length (cond b (new ∷ xs) (x ∷ put_by same new xs)) ≤ length (x ∷ xs) + 1
    go true h = omega arith
    go false h = omega (arith, h)

filter_few : {A : Type 0} (p : A → Bool) (xs : List A) → length (filter p xs) ≤ length xs + 1
filter_few p xs = omega (arith, length-filter_both p (λ x. not (p x)) (λ x. refl) xs)

map_same : {A B : Type 0} (f g : A → B) → ((a : A) → f a ≡ g a) → (xs : List A) → map f xs ≡ map g xs
map_same f g e [] = refl
map_same {A = A} {B = B} f g e (x ∷ xs) = ap (λ (y : B). y ∷ map f xs) (e x) ∙ ap (λ (ys : List B). g x ∷ ys) (map_same f g e xs)

module _ (now : ℕ) (m : Message) (x : Sender) where
  few_live : (r : RegisterRecord) (live : List Registration) → length (live_after now m r x live) ≤ length live + 1
  few_live r live = go (r.ttl == 0)
    where
      new : Registration
      new = registration_of now m r x

      go : (b : Bool)
          → length (cond b (filter (λ (g : Registration). not (is_same_sender g.sender x)) live) (put_by (λ old. is_same_registrant old new) new live)) ≤ length live + 1
      go true = filter_few (λ (g : Registration). not (is_same_sender g.sender x)) live
      go false = put_few (λ old. is_same_registrant old new) new live

  few_nonces : (keys : List Key) (nonces : List LastNonce) → length (nonces_after m keys nonces) ≤ length nonces + 1
  few_nonces keys nonces = go (is_remembered m.head keys)
    where
      go : (b : Bool) → length (cond b (put_by (λ old. is_of_same_xtr old (nonce_of m)) (nonce_of m) nonces) nonces) ≤ length nonces + 1
      go true = put_few (λ old. is_of_same_xtr old (nonce_of m)) (nonce_of m) nonces
      go false = omega arith

-- what is counted of the item that is found grows by one at most, where it does so of each
module _ {A : Type 0} (test : A → Bool) (g : A → A) (count : A → ℕ) (kept : (a : A) → test (g a) ≡ test a) (few : (a : A) → count (g a) ≤ count a + 1) where
  found_few : (xs : List A) → option_map_or count (find test (map g xs)) 0 ≤ option_map_or count (find test xs) 0 + 1
  found_few [] = omega arith
  found_few (a ∷ xs) = go (test (g a)) (test a) (kept a) (found_few xs)
    where
      go : (b c : Bool) → b ≡ c → option_map_or count (find test (map g xs)) 0 ≤ option_map_or count (find test xs) 0 + 1
          → option_map_or count (cond b (Some (g a)) (find test (map g xs))) 0 ≤ option_map_or count (cond c (Some a) (find test xs)) 0 + 1
      go true true e h = few a
      go true false e h = absurd cc
      go false true e h = absurd cc
      go false false e h = h

module _ (now : ℕ) (m : Message) (x : Sender) (r : RegisterRecord) (sites : List Site) where
  abbrev changed : Site → Site
  changed = at_prefix (λ (s : Site). s.prefix) r.prefix (site_after now m x r)

  prefix_kept : (q : List ℕ) (s : Site) → is_same_path (changed s).prefix q ≡ is_same_path s.prefix q
  prefix_kept q s = go (is_same_path s.prefix r.prefix)
    where
      go : (b : Bool) → is_same_path (cond b (site_after now m x r s) s).prefix q ≡ is_same_path s.prefix q
      go true = refl
      go false = refl

  live_few : (s : Site) → length (changed s).live ≤ length s.live + 1
  live_few s = go (is_same_path s.prefix r.prefix)
    where
      go : (b : Bool) → length (cond b (site_after now m x r s) s).live ≤ length s.live + 1
      go true = few_live now m x r s.live
      go false = omega arith

  nonces_few : (s : Site) → length (changed s).nonces ≤ length s.nonces + 1
  nonces_few s = go (is_same_path s.prefix r.prefix)
    where
      go : (b : Bool) → length (cond b (site_after now m x r s) s).nonces ≤ length s.nonces + 1
      go true = few_nonces now m x s.keys s.nonces
      go false = omega arith

  -- where one record more was counted, there is room after its change
  one_later : (n : ℕ) (later : RegisterRecord) (c : SiteChange) → HasRoom (site_of later sites) (n + 1) c
      → HasRoom (site_of later (sites_after now m x r sites)) n c
  one_later n later c h =
      let test : Site → Bool = λ s. is_same_path s.prefix later.prefix in
      let live = found_few test changed (λ (s : Site). length s.live) (prefix_kept later.prefix) live_few sites in
      let nonces = found_few test changed (λ (s : Site). length s.nonces) (prefix_kept later.prefix) nonces_few sites in record {
        no_live = h.no_live;
        live_room = omega (arith, live, h.live_room);
        no_nonces = h.no_nonces;
        nonce_room = omega (arith, nonces, h.nonce_room);
      }

  -- what was prepared for one record more before, is prepared after its change
  pub all_later : (n : ℕ) (rs : List RegisterRecord) (cs : List SiteChange) → ArePrepared now m x sites (n + 1) rs cs
      → ArePrepared now m x (sites_after now m x r sites) n rs cs
  all_later n [] [] all = tt
  all_later n [] (c ∷ cs) all = all
  all_later n (later ∷ rs) [] all = all
  all_later n (later ∷ rs) (c ∷ cs) all =
      let p = all.0 in (
        record { prefix = p.prefix; withdraws = p.withdraws; registers = p.registers; room = one_later n later c p.room },
        all_later (n + 1) rs cs all.1,
      )

module _ (now : ℕ) (m : Message) (x : Sender) (sites : List Site) where
  -- one more change at the end
  pub prepared_more : (n : ℕ) (rs : List RegisterRecord) (cs : List SiteChange) (r : RegisterRecord) (c : SiteChange) → ArePrepared now m x sites n rs cs
      → IsPrepared now m x (site_of r sites) (n + length cs) r c → ArePrepared now m x sites n (rs ++ r ∷ []) (cs ++ c ∷ [])
  prepared_more n [] [] r c all one =
      let here : n + 0 ≡ n = omega arith in
      (subst (λ (k : ℕ). IsPrepared now m x (site_of r sites) k r c) here one, tt)
  prepared_more n [] (b ∷ cs) r c all one = absurd all
  prepared_more n (q ∷ rs) [] r c all one = absurd all
  prepared_more n (q ∷ rs) (b ∷ cs) r c all one =
      let later : n + length (b ∷ cs) ≡ n + 1 + length cs = omega arith in
      (all.0, prepared_more (n + 1) rs cs r c all.1 (subst (λ (k : ℕ). IsPrepared now m x (site_of r sites) k r c) later one))

  -- a change of a site that was prepared is that of its record
  site_same : (site : Option Site) (n : ℕ) (r : RegisterRecord) (c : SiteChange) → IsPrepared now m x site n r c → (s : Site)
      → site_changed m x c s ≡ site_after now m x r s
  site_same site n r c p s =
      ap (λ (gone : Bool). changed_so gone c.registration) p.withdraws ∙ ap (λ (g : Registration). changed_so (r.ttl == 0) g) p.registers
    where
      changed_so : Bool → Registration → Site
      changed_so gone g = record {
        prefix = s.prefix;
        keys = s.keys;
        configured = s.configured;
        falls_back = s.falls_back;
        has_registered = s.has_registered || not gone;
        live = cond gone (filter (λ (o : Registration). not (is_same_sender o.sender x)) s.live) (put_by (λ old. is_same_registrant old g) g s.live);
        nonces = nonces_after m s.keys s.nonces;
      }

  sites_same : (n : ℕ) (r : RegisterRecord) (c : SiteChange) → IsPrepared now m x (site_of r sites) n r c
      → sites_changed m x c sites ≡ sites_after now m x r sites
  sites_same n r c p =
      ap (λ (q : List ℕ). map (at_prefix (λ (s : Site). s.prefix) q (site_changed m x c)) sites) p.prefix
      ∙ map_same (at_prefix (λ (s : Site). s.prefix) r.prefix (site_changed m x c)) (at_prefix (λ (s : Site). s.prefix) r.prefix (site_after now m x r))
      (λ s. ap (λ (t : Site). cond (is_same_path s.prefix r.prefix) t s) (site_same (site_of r sites) n r c p s)) sites

  -- the first of the changes that are left is that of the first record that is left, and the others are prepared after it
  pub record IsNext (rs : List RegisterRecord) (c : SiteChange) (cs : List SiteChange) : Type 0 where
    pub others : List RegisterRecord
    pub room : HasRoom (find (λ s. is_same_path s.prefix c.prefix) sites) 0 c
    pub prepared : ArePrepared now m x (sites_changed m x c sites) 0 others cs
    pub all : after_all now m x others (sites_changed m x c sites) ≡ after_all now m x rs sites

  pub next_is : (rs : List RegisterRecord) (c : SiteChange) (cs : List SiteChange) → ArePrepared now m x sites 0 rs (c ∷ cs) → IsNext rs c cs
  next_is [] c cs all = absurd all
  next_is (r ∷ others_) c cs all_ =
      let p = all_.0 in
      let same = sites_same 0 r c p in record {
        others = others_;
        room = subst (λ (q : List ℕ). HasRoom (find (λ s. is_same_path s.prefix q) sites) 0 c) (sym p.prefix) p.room;
        prepared = subst (λ (ss : List Site). ArePrepared now m x ss 0 others_ cs) (sym same) (all_later now m x r sites 0 others_ cs all_.1);
        all = ap (after_all now m x others_) same;
      }

  -- the changes that are left are prepared after it
  pub moved_on : (rs : List RegisterRecord) (c : SiteChange) (cs : List SiteChange) (later : List Site) → IsNext rs c cs → later ≡ sites_changed m x c sites
      → (last : List Site) → after_all now m x rs sites ≡ last
      → (left : List RegisterRecord) × ArePrepared now m x later 0 left cs × (after_all now m x left later ≡ last)
  moved_on rs c cs later next is last same = (
    next.others,
    subst (λ (ss : List Site). ArePrepared now m x ss 0 next.others cs) (sym is) next.prepared,
    ap (after_all now m x next.others) is ∙ next.all ∙ same,
  )

  pub none_left : (rs : List RegisterRecord) → ArePrepared now m x sites 0 rs [] → after_all now m x rs sites ≡ sites
  none_left [] all = refl
  none_left (r ∷ rs) all = absurd all
