-- The names of files lead nowhere else.
use Rattle.std.proofs.Common.{◌≡◌, ℕ, true, false, List, ◌++◌, length, refl, subst, ◌∙◌, arith}
use Rattle.std.specs.Prelude.{◌==◌, ◌&&◌, not, nat_le, codes}
use Rattle.std.specs.List.{list_all}
use Rattle.std.proofs.lemmas.Bool.{and_parts, and_from, not_from_false, false_from_ne_true, both_ways, eqb-true}
use Rattle.std.proofs.lemmas.List.{length-append}
use Rattle.std.proofs.lemmas.List.Folds.{list_all-append}
use Rattle.ddt_path.specs.Names.{is_name, is_name_byte}
use Rattle.ddt_path.specs.laws.Member.{all_of, holds_at}
use Rattle.ddt_deploy.specs.Folders.Names.{is_plain_byte, IsPlain}

other_byte : (b c : ℕ) → is_name_byte b ≡ true → is_name_byte c ≡ false → (b == c) ≡ false
other_byte b c h none = false_from_ne_true (b == c) (λ e.
    both_ways (is_name_byte c) none (subst (λ (n : ℕ). is_name_byte n ≡ true) (eqb-true b c e) h))

plain_byte : (b : ℕ) → is_name_byte b ≡ true → is_plain_byte b ≡ true
plain_byte b h = and_from (not (b == 47)) (not (b == 0)) (not_from_false (b == 47) (other_byte b 47 h refl))
    (not_from_false (b == 0) (other_byte b 0 h refl))

both_plain : (s t : List ℕ) → list_all is_plain_byte s ≡ true → list_all is_plain_byte t ≡ true
    → list_all is_plain_byte (s ++ t) ≡ true
both_plain s t h k = list_all-append is_plain_byte s t ∙ and_from (list_all is_plain_byte s) (list_all is_plain_byte t) h k

plain_name : (name : List ℕ) → is_name name ≡ true → list_all is_plain_byte name ≡ true
plain_name name h =
    let bytes = (and_parts (nat_le 1 (length name) && nat_le (length name) 63) (list_all is_name_byte name) h).1 in
    all_of is_plain_byte name (λ b k. plain_byte b (holds_at is_name_byte name b bytes k))

pub plain_config : (name : List ℕ) → is_name name ≡ true → IsPlain (name ++ codes ".toml")
plain_config name h = record {
  bytes = both_plain name (codes ".toml") (plain_name name h) refl;
  long = omega (arith, length-append name (codes ".toml"));
}

pub plain_beside : (text mark : List ℕ) → IsPlain text → is_name mark ≡ true
    → IsPlain (text ++ codes "." ++ mark ++ codes ".new")
plain_beside text mark h m = record {
  bytes = both_plain (text ++ codes "." ++ mark) (codes ".new")
      (both_plain (text ++ codes ".") mark (both_plain text (codes ".") h.bytes refl) (plain_name mark m)) refl;
  long = omega (
    arith,
    h.long,
    length-append (text ++ codes "." ++ mark) (codes ".new"),
    length-append (text ++ codes ".") mark,
    length-append text (codes "."),
  );
}
