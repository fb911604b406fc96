-- The seal of a configuration is one, and is read in the text that it was written to.
use Rattle.std.proofs.Common.{◌≡◌, ℕ, zero, suc, true, false, List, [], ◌∷◌, map, Some, Ok, Err, refl, sym, ap, ◌∙◌, arith, eq-eqb}
use Rattle.std.specs.Prelude.{pos, min, slice_index}
use Rattle.std.specs.Int.{w32, to_be_bytes}
use Rattle.std.proofs.lemmas.Bool.{le-leb}
use Rattle.std.proofs.lemmas.Option.{same_Some}
use Rattle.std.proofs.lemmas.Slice.Eq.{bytes_eq-Decides}
use Rattle.hex.specs.Hex.{decode_sized, encode_lower}
use Rattle.hex.proofs.HexLemmas.{decode_sized-encode_lower}
use Rattle.sha2.specs.Sha256.{sha256, digest_bytes}
use Rattle.sha2.proofs.Facts256.{length-sha256}
use Rattle.toml.specs.Data.{Data, string, integer, table, Members, get_member}
use Rattle.ddt_path.specs.Steps.{IsBytes}
use Rattle.ddt_path.specs.laws.Byte.{IsBytes-nil, IsBytes-append, IsBytes-number}
use Rattle.ddt_path.specs.declared.locator.Locator.{Locator}
use Rattle.ddt_text.specs.Written.{written_locator}
use Rattle.ddt_config.specs.Table.{Outline}
use Rattle.ddt_config.specs.Writing.{items_of, written_child, written_site, written_content, written_authority, written_config}
use Rattle.ddt_config.specs.declared.child.Child.{Child}
use Rattle.ddt_config.specs.declared.site_entry.SiteEntry.{SiteEntry}
use Rattle.ddt_config.specs.declared.authority.Content.{Content}
use Rattle.ddt_config.specs.declared.authority.Content.TheVariants.{Children, Sites}
use Rattle.ddt_config.specs.declared.authority.Authority.{Authority}
use Rattle.ddt_config.specs.declared.digest.counts.Counts.{Counts}
use Rattle.ddt_config.specs.declared.digest.seal.Seal.{Seal}
use Rattle.ddt_config.specs.declared.digest.fault.Key.{Key}
use Rattle.ddt_config.specs.declared.digest.fault.Key.TheVariants as key
use Rattle.ddt_config.specs.Digest.Counted.{most_count}
use Rattle.ddt_config.specs.Digest.Sealed.{IsSealOf, compared, key_text, count_of, seal_in, with_seal}
use Rattle.ddt_laws.specs.Seals.Statements.{SealsAreOne, SealedTextsAreTaken}
use Rattle.ddt_laws.proofs.SealsLemmas.TextLemmas.{is_exact, are_items_exact, are_members_exact, one_text}

-- ---- a configuration has one text

exact_each : {A : Type 0} (write : A → Data) (xs : List A) → ((x : A) → is_exact (write x) ≡ true)
    → are_items_exact (items_of (map write xs)) ≡ true
exact_each write [] h = refl
exact_each write (x ∷ xs) h = rw (h x, exact_each write xs h) refl

exact_locators : (ls : List Locator) → are_items_exact (items_of (map (λ l. string (written_locator l)) ls)) ≡ true
exact_locators ls = exact_each (λ l. string (written_locator l)) ls (λ l. refl)

exact_child : (c : Child) → are_members_exact (written_child c) ≡ true
exact_child c = rw (exact_locators c.locators) refl

exact_site : (s : SiteEntry) → are_members_exact (written_site s) ≡ true
exact_site s = rw (exact_locators s.etrs) refl

exact_content : (prefix : List ℕ) (content : Content) → are_members_exact (written_content prefix content) ≡ true
exact_content prefix (Children cs) = rw (exact_each (λ c. table (written_child c)) cs exact_child) refl
exact_content prefix (Sites ss) = rw (exact_each (λ s. table (written_site s)) ss exact_site) refl

exact_config : (o : Outline) → are_members_exact (written_config o) ≡ true
exact_config o =
    rw (
      exact_each (λ a. table (written_authority a)) o.authorities (λ (a : Authority). exact_content a.prefix a.content),
      exact_locators o.locators,
    ) refl

-- ---- and so one seal

pub one_seal : SealsAreOne
one_seal o s t h k =
    let texts = one_text false (written_config o) (exact_config o) h.1.0 k.1.0 h.1.1 k.1.1 in
    let digests : s.digest ≡ t.digest = h.1.2 ∙ ap sha256 texts ∙ sym k.1.2 in
    let counts : s.counts ≡ t.counts = h.0 ∙ sym k.0 in
    let first : s ≡ record { counts = t.counts; digest = s.digest } =
    ap (λ (c : Counts). record { counts = c; digest = s.digest }) counts in
    first ∙ ap (λ (d : List ℕ). record { counts = t.counts; digest = d }) digests

-- ---- which is read

-- a digest is 32 bytes
digest_is_bytes : (h : List ℕ) (n : ℕ) → IsBytes (digest_bytes h n)
unfolding digest_bytes
digest_is_bytes h zero = IsBytes-nil
digest_is_bytes h (suc n) =
    IsBytes-append (digest_bytes h n) (to_be_bytes w32 (slice_index h n)) (digest_is_bytes h n) (IsBytes-number 4 (slice_index h n))

sha256_is_bytes : (m : List ℕ) → IsBytes (sha256 m)
unfolding sha256
sha256_is_bytes m = digest_is_bytes _ 8

digest_read : (digest m : List ℕ) → digest ≡ sha256 m → decode_sized (encode_lower digest) 32 ≡ Ok digest
digest_read digest m is =
    rw is (decode_sized-encode_lower (sha256 m) 32 (length-sha256 m) (λ i. (sha256_is_bytes m).at i))

-- a count that is given is one that is read
count_read : (k : Key) (n m : ℕ) → n ≡ min m most_count → count_of k (integer (pos n)) ≡ Ok n
count_read k n m is = let fits = le-leb n most_count (omega arith) in rw fits refl

-- a table in which each key of a seal has its value
read_by_keys : (ms : Members) (s : Seal)
    → get_member (key_text key.Authorities) ms ≡ Some (integer (pos s.counts.authorities))
    → get_member (key_text key.Children) ms ≡ Some (integer (pos s.counts.children))
    → get_member (key_text key.Digest) ms ≡ Some (string (encode_lower s.digest))
    → get_member (key_text key.Sites) ms ≡ Some (integer (pos s.counts.sites))
    → count_of key.Authorities (integer (pos s.counts.authorities)) ≡ Ok s.counts.authorities
    → count_of key.Children (integer (pos s.counts.children)) ≡ Ok s.counts.children
    → decode_sized (encode_lower s.digest) 32 ≡ Ok s.digest
    → count_of key.Sites (integer (pos s.counts.sites)) ≡ Ok s.counts.sites
    → seal_in ms ≡ Ok (Some s)
read_by_keys ms s a c d t read_a read_c read_d read_t = rw (a, c, d, t, read_a, read_c, read_d, read_t) refl

seal_read : (o : Outline) (s : Seal) → IsSealOf s o → seal_in (with_seal s (written_config o)) ≡ Ok (Some s)
seal_read o s own =
    read_by_keys (with_seal s (written_config o)) s refl refl refl refl
    (count_read key.Authorities s.counts.authorities _ (ap (λ (c : Counts). c.authorities) own.0))
    (count_read key.Children s.counts.children _ (ap (λ (c : Counts). c.children) own.0))
    (digest_read s.digest own.1.0 own.1.2)
    (count_read key.Sites s.counts.sites _ (ap (λ (c : Counts). c.sites) own.0))

-- ---- and is taken

same_seal : (s : Seal) → compared s s ≡ Ok tt
same_seal s =
    let a = eq-eqb s.counts.authorities s.counts.authorities refl in
    let c = eq-eqb s.counts.children s.counts.children refl in
    let t = eq-eqb s.counts.sites s.counts.sites refl in
    let d = (bytes_eq-Decides s.digest s.digest).1 refl in
    rw (a, c, t, d) refl

pub taken : SealedTextsAreTaken
taken text o ms sealed parsed =
    let s = sealed.seal in
    let same : ms ≡ with_seal s (written_config o) = same_Some _ _ (sym parsed ∙ sealed.is_read) in
    record {
      said = s;
      is_read = ap seal_in same ∙ seal_read o s sealed.is_own;
      is_own = sealed.is_own;
      is_taken = λ fault other.
          let said : s ≡ other.seal = same_Some s other.seal other.is_said in
          let own : s ≡ other.own = one_seal o s other.own sealed.is_own other.is_own in
          let differs : Ok tt ≡ Err fault =
          sym (same_seal s) ∙ ap (λ (x : Seal). compared x s) said ∙ ap (λ (x : Seal). compared other.seal x) own ∙ other.differs in
          cc differs;
    }
