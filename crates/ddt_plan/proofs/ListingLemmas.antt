-- The blocks of a register, and what changes from one to another, by the pieces of their keys.
use Rattle.std.proofs.Common.{◌≡◌, ℕ, Bool, true, false, cond, List, [], ◌∷◌, ◌++◌, length, map, take, drop, ◌-◌, find, Some, refl, sym, ap, subst, ◌∙◌, arith}
use Rattle.std.specs.Prelude.{Contains}
use Rattle.std.specs.List.{list_all, filter}
use Rattle.std.proofs.lemmas.Bool.{and_parts, and_from, not-true, not_from_false}
use Rattle.std.proofs.lemmas.List.{take-append-drop}
use Rattle.std.proofs.lemmas.List.Folds.{list_all-append}
use Rattle.std.proofs.lemmas.Option.{same_Some}
use Rattle.ddt_path.specs.declared.record.Outcome.{Outcome}
use Rattle.ddt_path.specs.Covers.{covers}
use Rattle.ddt_path.specs.Free.{lengthened}
use Rattle.ddt_path.specs.laws.Cover.{take-covered, length-covered, covers_trans}
use Rattle.ddt_path.specs.Path.{is_prefix_path}
use Rattle.ddt_path.specs.laws.Filter.{in_filter, filter_in}
use Rattle.ddt_path.specs.laws.Hole.{parts_from_fits}
use Rattle.ddt_path.specs.laws.Member.{IsIn, contained, in_contained, in_map, map_in, all_of, holds_at}
use Rattle.ddt_register.specs.declared.register.Register.{Register}
use Rattle.ddt_register.specs.laws.Range.{zone_prefixes, site_prefixes}
use Rattle.ddt_check.specs.Assignment.{assignment}
use Rattle.ddt_check.specs.laws.Zone.{zone_prefix, site_prefix}
use Rattle.ddt_plan.specs.declared.outcomes.Reading.{Reading}
use Rattle.ddt_plan.specs.declared.block_list.Block.{Block}
use Rattle.ddt_plan.specs.declared.change_list.Change.{Change}
use Rattle.ddt_plan.specs.Blocks.{keys_of, is_undivided, block_inside, stands_before, are_in_order, pieces}
use Rattle.ddt_plan.specs.Changes.{is_same_outcome, AreBlocks, AreChanges, block_at, change_at, is_apart}
use Rattle.ddt_plan.proofs.AlikeLemmas.{assigned_as_block}
use Rattle.ddt_plan.proofs.PieceLemmas.{piece_there, piece_path, piece_covered, piece_whole, piece_found, pieces_in_order}

-- ---- lists in order

prefixes_back : {A : Type 0} (prefix : A → List ℕ) (made : List ℕ → A) → ((p : List ℕ) → prefix (made p) ≡ p) → (ps : List (List ℕ)) → map prefix (map made ps) ≡ ps
prefixes_back prefix made back [] = refl
prefixes_back prefix made back (p ∷ ps) = ap (λ (q : List ℕ). q ∷ map prefix (map made ps)) (back p) ∙ ap (λ (qs : List (List ℕ)). p ∷ qs) (prefixes_back prefix made back ps)

module _ {A : Type 0} (prefix : A → List ℕ) (test : A → Bool) where
  first_kept : (x : A) (xs : List A) → list_all (stands_before (prefix x)) (map prefix xs) ≡ true → list_all (stands_before (prefix x)) (map prefix (filter test xs)) ≡ true
  first_kept x xs e = all_of (stands_before (prefix x)) (map prefix (filter test xs)) (λ q k.
      let m = in_map prefix (filter test xs) q k in
      let n = in_filter test xs m.0 m.1 in
      ap (stands_before (prefix x)) m.2 ∙ holds_at (stands_before (prefix x)) (map prefix xs) (prefix m.0) e (map_in prefix xs m.0 n.0))

  kept_case : (x : A) (kept : List A) → list_all (stands_before (prefix x)) (map prefix kept) ≡ true → are_in_order (map prefix kept) ≡ true → (b : Bool) → are_in_order (map prefix (cond b (x ∷ kept) kept)) ≡ true
  kept_case x kept first rest true = and_from (list_all (stands_before (prefix x)) (map prefix kept)) (are_in_order (map prefix kept)) first rest
  kept_case x kept first rest false = rest

  ordered_kept : (xs : List A) → are_in_order (map prefix xs) ≡ true → are_in_order (map prefix (filter test xs)) ≡ true
  ordered_kept [] e = refl
  ordered_kept (x ∷ xs) e =
      let s = and_parts (list_all (stands_before (prefix x)) (map prefix xs)) (are_in_order (map prefix xs)) e in
      kept_case x (filter test xs) (first_kept x xs s.0) (ordered_kept xs s.1) (test x)

-- ---- keys

pub keys_are_paths : (r : Register) → list_all is_prefix_path (keys_of r) ≡ true
keys_are_paths r =
    list_all-append is_prefix_path (map zone_prefix r.zones) (map site_prefix r.sites)
    ∙ and_from (list_all is_prefix_path (map zone_prefix r.zones)) (list_all is_prefix_path (map site_prefix r.sites)) (zone_prefixes r) (site_prefixes r)

pub both_are_paths : (r s : Register) → list_all is_prefix_path (keys_of r ++ keys_of s) ≡ true
both_are_paths r s =
    list_all-append is_prefix_path (keys_of r) (keys_of s)
    ∙ and_from (list_all is_prefix_path (keys_of r)) (list_all is_prefix_path (keys_of s)) (keys_are_paths r) (keys_are_paths s)

pub undivided_parts : (r s : Register) (q : List ℕ) → is_undivided (keys_of r ++ keys_of s) q ≡ true → (is_undivided (keys_of r) q ≡ true) × (is_undivided (keys_of s) q ≡ true)
undivided_parts r s q e = and_parts (is_undivided (keys_of r) q) (is_undivided (keys_of s) q) (sym (list_all-append _ (keys_of r) (keys_of s)) ∙ e)

-- ---- all pieces of a prefix

module _ (keys : List (List ℕ)) (paths : list_all is_prefix_path keys ≡ true) (inside : List ℕ) where
  abbrev pub all_pieces : List (List ℕ)
  all_pieces = pieces (161 - length inside) keys inside

  undivided_at : (p : List ℕ) → IsIn p all_pieces → is_undivided keys p ≡ true
  undivided_at p k = piece_whole keys paths (161 - length inside) inside p (omega arith) k

  inside_at : (p : List ℕ) → IsIn p all_pieces → covers inside p ≡ true
  inside_at p k = piece_covered keys (161 - length inside) inside p k

  least_at : (p x : List ℕ) → IsIn p all_pieces → covers p x ≡ true → block_inside inside keys x ≡ Some p
  least_at p x k c =
      let over : covers inside x ≡ true = covers_trans inside p x (inside_at p k) c in
      let front : take (length inside) x ≡ inside = take-covered inside x over in
      let rest = drop (length inside) x in
      let whole : inside ++ rest ≡ x = ap (λ (l : List ℕ). l ++ rest) (sym front) ∙ take-append-drop (length inside) x in
      ap (find (is_undivided keys)) (parts_from_fits (length inside) x (length-covered inside x over))
      ∙ ap (λ (l : List ℕ). find (is_undivided keys) (lengthened l rest)) front
      ∙ piece_found keys (161 - length inside) inside p rest k (undivided_at p k) (subst (λ (l : List ℕ). covers p l ≡ true) (sym whole) c)

  one_at : (p q x : List ℕ) → IsIn p all_pieces → IsIn q all_pieces → covers p x ≡ true → covers q x ≡ true → p ≡ q
  one_at p q x j k c d = same_Some p q (sym (least_at p x j c) ∙ least_at q x k d)

-- ---- blocks

module _ (r : Register) (inside : List ℕ) where
  abbrev keys : List (List ℕ)
  keys = keys_of r

  abbrev of_keys : List (List ℕ)
  of_keys = pieces (161 - length inside) (keys_of r) inside

  paths : list_all is_prefix_path (keys_of r) ≡ true
  paths = keys_are_paths r

  record IsPiece (b : Block) : Type 0 where
    piece : List ℕ
    among : IsIn piece of_keys
    same : b ≡ block_at r piece

  piece_of : (b : Block) → Contains (map (block_at r) of_keys) b → IsPiece b
  piece_of b k =
      let p = in_map (block_at r) of_keys b (in_contained (map (block_at r) of_keys) b k) in
      record { piece = p.0; among = p.1; same = p.2 }

  is_at : (b : Block) (p : List ℕ) → b ≡ block_at r p → b.prefix ≡ p
  is_at b p e = ap (λ (c : Block). c.prefix) e

  covers_at : (b : Block) (p x : List ℕ) → b ≡ block_at r p → covers b.prefix x ≡ true → covers p x ≡ true
  covers_at b p x e = subst (λ (q : List ℕ). covers q x ≡ true) (is_at b p e)

  pub are_blocks : AreBlocks r inside (map (block_at r) of_keys)
  are_blocks = record {
    all = λ x e over.
        let p = piece_there keys paths (161 - length inside) inside x e over in
        (block_at r p.0, contained (map (block_at r) of_keys) (block_at r p.0) (map_in (block_at r) of_keys p.0 p.1), p.2);
    one = λ b c x j k over under.
        let p = piece_of b j in
        let q = piece_of c k in
        p.same
        ∙ ap (block_at r) (one_at keys paths inside p.piece q.piece x p.among q.among (covers_at b p.piece x p.same over) (covers_at c q.piece x q.same under))
        ∙ sym q.same;
    are_prefixes = λ whole b k.
        let p = piece_of b k in
        ap is_prefix_path (is_at b p.piece p.same) ∙ piece_path keys paths (161 - length inside) inside p.piece whole p.among;
    within = λ b k.
        let p = piece_of b k in
        subst (λ (q : List ℕ). covers inside q ≡ true) (sym (is_at b p.piece p.same)) (inside_at keys paths inside p.piece p.among);
    least = λ b x k c.
        let p = piece_of b k in
        least_at keys paths inside p.piece x p.among (covers_at b p.piece x p.same c) ∙ ap (λ (q : List ℕ). Some q) (sym (is_at b p.piece p.same));
    assigned = λ b x k c.
        let p = piece_of b k in
        ap (λ (b : Block). b.outcome) p.same
        ∙ sym (assigned_as_block r p.piece (undivided_at keys paths inside p.piece p.among) x (covers_at b p.piece x p.same c));
    in_order = ap are_in_order (prefixes_back (λ (b : Block). b.prefix) (block_at r) (λ p. refl) of_keys) ∙ pieces_in_order keys (161 - length inside) inside;
  }

-- ---- changes

module _ (reading : Reading) (r s : Register) (inside : List ℕ) where
  abbrev keys_both : List (List ℕ)
  keys_both = keys_of r ++ keys_of s

  abbrev of_both : List (List ℕ)
  of_both = pieces (161 - length inside) (keys_of r ++ keys_of s) inside

  abbrev all_of_them : List Change
  all_of_them = map (change_at r s) of_both

  abbrev those_apart : List Change
  those_apart = filter (is_apart reading) (map (change_at r s) of_both)

  record IsPieceApart (c : Change) : Type 0 where
    piece : List ℕ
    among : IsIn piece of_both
    same : c ≡ change_at r s piece
    apart : is_apart reading c ≡ true

  change_of : (c : Change) → Contains those_apart c → IsPieceApart c
  change_of c k =
      let f = in_filter (is_apart reading) all_of_them c (in_contained those_apart c k) in
      let p = in_map (change_at r s) of_both c f.0 in
      record { piece = p.0; among = p.1; same = p.2; apart = f.1 }

  whole_in_both : (p : List ℕ) → IsIn p of_both → (is_undivided (keys_of r) p ≡ true) × (is_undivided (keys_of s) p ≡ true)
  whole_in_both p k = undivided_parts r s p (undivided_at keys_both (both_are_paths r s) inside p k)

  prefix_is : (c : Change) (p : List ℕ) → c ≡ change_at r s p → c.prefix ≡ p
  prefix_is c p e = ap (λ (c : Change). c.prefix) e

  covers_piece : (c : Change) (p x : List ℕ) → c ≡ change_at r s p → covers c.prefix x ≡ true → covers p x ≡ true
  covers_piece c p x e = subst (λ (q : List ℕ). covers q x ≡ true) (prefix_is c p e)

  pub are_changes : AreChanges reading r s inside those_apart
  are_changes = record {
    all = λ x e over apart.
        let p = piece_there keys_both (both_are_paths r s) (161 - length inside) inside x e over in
        let w = whole_in_both p.0 p.1 in
        let c = change_at r s p.0 in
        let told : is_same_outcome reading (assignment r p.0) (assignment s p.0) ≡ false =
        ap (λ (o : Outcome). is_same_outcome reading o (assignment s p.0)) (sym (assigned_as_block r p.0 w.0 x p.2))
        ∙ ap (λ (o : Outcome). is_same_outcome reading (assignment r x) o) (sym (assigned_as_block s p.0 w.1 x p.2))
        ∙ apart in (
          c,
          contained those_apart c (filter_in (is_apart reading) all_of_them c (map_in (change_at r s) of_both p.0 p.1)
              (not_from_false (is_same_outcome reading (assignment r p.0) (assignment s p.0)) told)),
          p.2,
        );
    one = λ c d x j k over under.
        let p = change_of c j in
        let q = change_of d k in
        p.same
        ∙ ap (change_at r s) (one_at keys_both (both_are_paths r s) inside p.piece q.piece x p.among q.among (covers_piece c p.piece x p.same over) (covers_piece d q.piece x q.same under))
        ∙ sym q.same;
    apart = λ c k. not-true (is_same_outcome reading c.before c.after) (change_of c k).apart;
    assigned_before = λ c x k inside.
        let p = change_of c k in
        ap (λ (c : Change). c.before) p.same
        ∙ sym (assigned_as_block r p.piece (whole_in_both p.piece p.among).0 x (covers_piece c p.piece x p.same inside));
    assigned_after = λ c x k inside.
        let p = change_of c k in
        ap (λ (c : Change). c.after) p.same
        ∙ sym (assigned_as_block s p.piece (whole_in_both p.piece p.among).1 x (covers_piece c p.piece x p.same inside));
    are_prefixes = λ whole c k.
        let p = change_of c k in
        ap is_prefix_path (prefix_is c p.piece p.same) ∙ piece_path keys_both (both_are_paths r s) (161 - length inside) inside p.piece whole p.among;
    within = λ c k.
        let p = change_of c k in
        subst (λ (q : List ℕ). covers inside q ≡ true) (sym (prefix_is c p.piece p.same)) (inside_at keys_both (both_are_paths r s) inside p.piece p.among);
    least = λ c x k over.
        let p = change_of c k in
        least_at keys_both (both_are_paths r s) inside p.piece x p.among (covers_piece c p.piece x p.same over)
        ∙ ap (λ (q : List ℕ). Some q) (sym (prefix_is c p.piece p.same));
    in_order = ordered_kept (λ (c : Change). c.prefix) (is_apart reading) all_of_them
        (ap are_in_order (prefixes_back (λ (c : Change). c.prefix) (change_at r s) (λ p. refl) of_both) ∙ pieces_in_order keys_both (161 - length inside) inside);
  }
