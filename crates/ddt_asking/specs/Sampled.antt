-- Some of a list, drawn at random.
use Rattle.std.specs.Prelude.{ℕ, ◌≡◌, min, List, length, map, Some, slice_get, IsPermutation}
use Rattle.std.specs.List.Sorted.{IsSorted}
use Rattle.std.specs.Ordering.{nat_cmp}
use Rattle.rand.specs.Sample.{IsSampleOf}
use Rattle.ddt_path.specs.declared.xeid.Xeid.{Xeid}

-- So many elements of a list, or all where there are fewer: those at places that were drawn, none twice, in the
-- order of the list.
pub record IsSample (xs : List Xeid) (amount : ℕ) (some : List Xeid) : Type 0 where
  pub drawn : List ℕ
  pub are_places : IsSampleOf (length xs) (min amount (length xs)) drawn
  pub places : List ℕ
  pub sorted : IsPermutation drawn places
  pub in_order : IsSorted nat_cmp places
  pub taken : map (slice_get xs) places ≡ map Some some
