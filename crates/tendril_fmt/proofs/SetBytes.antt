-- The bytes of a set, and its table.
use Rattle.std.proofs.Common.{◌≡◌, ◌≢◌, ◌⊎◌, ◌↔◌, ℕ, ◌<◌, ◌≤◌, ◌==◌, ◌||◌, Bool, true, false, List, length, set}
use Rattle.std.proofs.Common.{replicate, refl, sym, ap, ◌∙◌, arith, inl, inr, subst}
use Rattle.std.proofs.lemmas.Bool.{cases_eq, cases_lt, eq-eqb, eqb-true, ne_eqb, or_cases, or_left, or_right}
use Rattle.std.proofs.lemmas.Grind.{get_or-set_at}
use Rattle.std.proofs.lemmas.List.{get_or-set_other, get_or-replicate, get_or_past, length-replicate, length-set}
use Rattle.tendril_fmt.specs.Sets.{has_byte, is_byte4, table4, member_table, is_member, IsMember}
use Rattle.tendril_fmt.specs.Sets.{AreAsciiMembers, IsTable}
use Rattle.tendril_fmt.specs.declared.cuts.byte_set.Members.{Members}
use Rattle.tendril_fmt.specs.declared.cuts.byte_set.Members.TheVariants.{One, Two, Three, Four, Table}

-- a number is one of four
abbrev pub IsOne : ℕ → ℕ → ℕ → ℕ → ℕ → Type 0
IsOne a b c d x = (x ≡ a) ⊎ ((x ≡ b) ⊎ ((x ≡ c) ⊎ (x ≡ d)))

pub is_one : (a b c d x : ℕ) → IsOne a b c d x → is_byte4 a b c d x ≡ true
is_one a b c d x (inl e) = or_left (x == a || x == b || x == c) (x == d)
    (or_left (x == a || x == b) (x == c) (or_left (x == a) (x == b) (eq-eqb x a e)))
is_one a b c d x (inr (inl e)) =
    or_left (x == a || x == b || x == c) (x == d)
    (or_left (x == a || x == b) (x == c) (or_right (x == a) (x == b) (eq-eqb x b e)))
is_one a b c d x (inr (inr (inl e))) =
    or_left (x == a || x == b || x == c) (x == d) (or_right (x == a || x == b) (x == c) (eq-eqb x c e))
is_one a b c d x (inr (inr (inr e))) = or_right (x == a || x == b || x == c) (x == d) (eq-eqb x d e)

pub one_of : (a b c d x : ℕ) → is_byte4 a b c d x ≡ true → IsOne a b c d x
one_of a b c d x is = three (or_cases (x == a || x == b || x == c) (x == d) is)
  where
    one : ((x == a) ≡ true) ⊎ ((x == b) ≡ true) → IsOne a b c d x
    one (inl e) = inl (eqb-true x a e)
    one (inr e) = inr (inl (eqb-true x b e))

    two : ((x == a || x == b) ≡ true) ⊎ ((x == c) ≡ true) → IsOne a b c d x
    two (inl e) = one (or_cases (x == a) (x == b) e)
    two (inr e) = inr (inr (inl (eqb-true x c e)))

    three : ((x == a || x == b || x == c) ≡ true) ⊎ ((x == d) ≡ true) → IsOne a b c d x
    three (inl e) = two (or_cases (x == a || x == b) (x == c) e)
    three (inr e) = inr (inr (inr (eqb-true x d e)))

-- a table after one more byte
with_byte : (table : List Bool) (a x : ℕ) → a < length table
    → has_byte (set table a true) x ≡ (x == a || has_byte table x)
with_byte table a x within = there (cases_eq x a)
  where
    there : (x ≡ a) ⊎ (x ≢ a) → has_byte (set table a true) x ≡ (x == a || has_byte table x)
    there (inl e) = get_or-set_at table a x true false e within
        ∙ sym (or_left (x == a) (has_byte table x) (eq-eqb x a e))
    there (inr ne) = get_or-set_other table a x true false ne
        ∙ sym (ap (λ q. q || has_byte table x) (ne_eqb x a ne))

pub no_byte : (count x : ℕ) → has_byte (replicate count false) x ≡ false
no_byte count x = there (cases_lt x count)
  where
    there : (x < count) ⊎ (count ≤ x) → has_byte (replicate count false) x ≡ false
    there (inl l) = get_or-replicate count x false false l
    there (inr l) = get_or_past (replicate count false) x false
        (subst (λ n. n ≤ x) (sym (length-replicate count false)) l)

regroup : (p q r s : Bool) → (p || (q || (r || (s || false)))) ≡ (p || q || r || s)
regroup true q r s = refl
regroup false true r s = refl
regroup false false true s = refl
regroup false false false true = refl
regroup false false false false = refl

-- the table of four bytes, with any count of entries
module _ (count a b c d : ℕ) (la : a < count) (lb : b < count) (lc : c < count) (ld : d < count) where
  abbrev none : List Bool
  none = replicate count false

  abbrev one : List Bool
  one = set none d true

  abbrev two : List Bool
  two = set one c true

  abbrev three : List Bool
  three = set two b true

  abbrev four : List Bool
  four = set three a true

  long0 : length none ≡ count
  long0 = length-replicate count false

  long1 : length one ≡ count
  long1 = length-set none d true ∙ long0

  long2 : length two ≡ count
  long2 = length-set one c true ∙ long1

  long3 : length three ≡ count
  long3 = length-set two b true ∙ long2

  long4 : length four ≡ count
  long4 = length-set three a true ∙ long3

  has_four : (x : ℕ) → has_byte four x ≡ is_byte4 a b c d x
  has_four x =
      with_byte three a x (omega (arith, la, long3))
      ∙ ap (λ q. x == a || q) (with_byte two b x (omega (arith, lb, long2))
      ∙ ap (λ q. x == b || q) (with_byte one c x (omega (arith, lc, long1))
      ∙ ap (λ q. x == c || q) (with_byte none d x (omega (arith, ld, long0))
      ∙ ap (λ q. x == d || q) (no_byte count x))))
      ∙ regroup (x == a) (x == b) (x == c) (x == d)

module _ (a b c d : ℕ) (la : a < 128) (lb : b < 128) (lc : c < 128) (ld : d < 128) where
  has4 : (x : ℕ) → has_byte (table4 a b c d) x ≡ is_byte4 a b c d x
  has4 = has_four 256 a b c d (omega (arith, la)) (omega (arith, lb)) (omega (arith, lc)) (omega (arith, ld))

  members4 : (x : ℕ) → (has_byte (table4 a b c d) x ≡ true) ↔ IsOne a b c d x
  members4 x = (λ is. one_of a b c d x (sym (has4 x) ∙ is), λ one. has4 x ∙ is_one a b c d x one)

  ascii4 : (x : ℕ) → IsOne a b c d x → x < 128
  ascii4 x (inl e) = omega (arith, e, la)
  ascii4 x (inr (inl e)) = omega (arith, e, lb)
  ascii4 x (inr (inr (inl e))) = omega (arith, e, lc)
  ascii4 x (inr (inr (inr e))) = omega (arith, e, ld)

  table4_is : IsTable (table4 a b c d)
  table4_is = record {
    len = long4 256 a b c d (omega (arith, la)) (omega (arith, lb)) (omega (arith, lc)) (omega (arith, ld));
    ascii = λ x is. ascii4 x ((members4 x).0 is);
  }

-- the table of a set has exactly its bytes, as a test
pub has_member : (m : Members) → AreAsciiMembers m → (x : ℕ) → has_byte (member_table m) x ≡ is_member m x
has_member (One a) h x = has4 a a a a h h h h x
has_member (Two a b) h x = has4 a b b b h.0 h.1 h.1 h.1 x
has_member (Three a b c) h x = has4 a b c c h.0 h.1 h.2 h.2 x
has_member (Four a b c d) h x = has4 a b c d h.0 h.1 h.2 h.3 x
has_member (Table table) h x = refl

one_byte : (a x : ℕ) → IsOne a a a a x → x ≡ a
one_byte a x (inl e) = e
one_byte a x (inr (inl e)) = e
one_byte a x (inr (inr (inl e))) = e
one_byte a x (inr (inr (inr e))) = e

two_bytes : (a b x : ℕ) → IsOne a b b b x → (x ≡ a) ⊎ (x ≡ b)
two_bytes a b x (inl e) = inl e
two_bytes a b x (inr (inl e)) = inr e
two_bytes a b x (inr (inr (inl e))) = inr e
two_bytes a b x (inr (inr (inr e))) = inr e

from_two : (a b x : ℕ) → (x ≡ a) ⊎ (x ≡ b) → IsOne a b b b x
from_two a b x (inl e) = inl e
from_two a b x (inr e) = inr (inl e)

three_bytes : (a b c x : ℕ) → IsOne a b c c x → (x ≡ a) ⊎ ((x ≡ b) ⊎ (x ≡ c))
three_bytes a b c x (inl e) = inl e
three_bytes a b c x (inr (inl e)) = inr (inl e)
three_bytes a b c x (inr (inr (inl e))) = inr (inr e)
three_bytes a b c x (inr (inr (inr e))) = inr (inr e)

from_three : (a b c x : ℕ) → (x ≡ a) ⊎ ((x ≡ b) ⊎ (x ≡ c)) → IsOne a b c c x
from_three a b c x (inl e) = inl e
from_three a b c x (inr (inl e)) = inr (inl e)
from_three a b c x (inr (inr e)) = inr (inr (inl e))

-- the table of a set has exactly its bytes
pub has_members : (m : Members) → AreAsciiMembers m → (x : ℕ) → (has_byte (member_table m) x ≡ true) ↔ IsMember m x
has_members (One a) h x =
    let is = members4 a a a a h h h h x in
    (λ has. one_byte a x (is.0 has), λ e. is.1 (inl e))
has_members (Two a b) h x =
    let is = members4 a b b b h.0 h.1 h.1 h.1 x in
    (λ has. two_bytes a b x (is.0 has), λ e. is.1 (from_two a b x e))
has_members (Three a b c) h x =
    let is = members4 a b c c h.0 h.1 h.2 h.2 x in
    (λ has. three_bytes a b c x (is.0 has), λ e. is.1 (from_three a b c x e))
has_members (Four a b c d) h x = members4 a b c d h.0 h.1 h.2 h.3 x
has_members (Table table) h x = (λ is. is, λ is. is)

pub is_table : (m : Members) → AreAsciiMembers m → IsTable (member_table m)
is_table (One a) h = table4_is a a a a h h h h
is_table (Two a b) h = table4_is a b b b h.0 h.1 h.1 h.1
is_table (Three a b c) h = table4_is a b c c h.0 h.1 h.2 h.2
is_table (Four a b c d) h = table4_is a b c d h.0 h.1 h.2 h.3
is_table (Table table) h = h
