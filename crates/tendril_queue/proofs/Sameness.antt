-- Bytes that are equal, or equal but for the case of ASCII letters.
use Rattle.std.proofs.Common.{
  ◌≡◌,
  ℕ,
  ◌≤◌,
  List,
  ◌++◌,
  length,
  get_or,
  map,
  take,
  drop,
  refl,
  sym,
  ap,
  ap₂,
  ◌∙◌,
  subst,
  arith,
}
use Rattle.std.specs.Prelude.{IsUtf8}
use Rattle.std.specs.Char.{to_ascii_lowercase}
use Rattle.std.specs.Str.{IsCharBoundary}
use Rattle.std.proofs.lemmas.List.{length-map, take-append-drop, drop_at, get_or-map, map-append}
use Rattle.std.proofs.lemmas.Str.{IsUtf8-take, IsCharBoundary-from_drop}
use Rattle.tendril_text.proofs.Cases.{IsUtf8-lower, lower_high}
use Rattle.tendril_queue.proofs.Dropped.{valid_after}
use Rattle.tendril_queue.specs.declared.eat.Case.{Case}
use Rattle.tendril_queue.specs.declared.eat.Case.TheVariants.{Matters, AsciiIgnored}
use Rattle.tendril_queue.specs.Eating.{AreSame}

pub same_join : (case : Case) (a b c d : List ℕ) → AreSame case a b → AreSame case c d → AreSame case (a ++ c) (b ++ d)
same_join Matters a b c d p q = ap₂ (λ x y. x ++ y) p q
same_join AsciiIgnored a b c d p q = map-append to_ascii_lowercase a c ∙ ap₂ (λ x y. x ++ y) p q
    ∙ sym (map-append to_ascii_lowercase b d)

after_same : (a b c d : List ℕ) → length a ≡ length b → a ++ c ≡ b ++ d → c ≡ d
after_same a b c d len e = sym (drop_at a c (length a) refl) ∙ ap (drop (length a)) e ∙ drop_at b d (length a) (sym len)

-- what follows prefixes of the same length
pub same_after : (case : Case) (a b c d : List ℕ) → length a ≡ length b → AreSame case (a ++ c) (b ++ d)
    → AreSame case c d
same_after Matters a b c d len e = after_same a b c d len e
same_after AsciiIgnored a b c d len e =
    after_same (map to_ascii_lowercase a) (map to_ascii_lowercase b) (map to_ascii_lowercase c)
    (map to_ascii_lowercase d)
    (length-map a to_ascii_lowercase ∙ len ∙ sym (length-map b to_ascii_lowercase))
    (sym (map-append to_ascii_lowercase a c) ∙ e ∙ map-append to_ascii_lowercase b d)

-- a prefix of UTF-8 that is the same as UTF-8 is UTF-8
pub same_valid : (case : Case) (bytes pattern : List ℕ) → IsUtf8 bytes → IsUtf8 pattern
    → length pattern ≤ length bytes → AreSame case (take (length pattern) bytes) pattern
    → IsUtf8 (take (length pattern) bytes)
same_valid Matters bytes pattern valid p within e = subst IsUtf8 (sym e) p
same_valid AsciiIgnored bytes pattern valid p within e =
    let n = length pattern in
    let lower = map to_ascii_lowercase in
    let all : lower bytes ≡ lower pattern ++ lower (drop n bytes) =
    ap lower (sym (take-append-drop n bytes)) ∙ map-append to_ascii_lowercase (take n bytes) (drop n bytes)
    ∙ ap (λ l. l ++ lower (drop n bytes)) e in
    let rest : IsUtf8 (lower (drop n bytes)) = valid_after (lower pattern) (lower (drop n bytes)) (subst IsUtf8 all
    (IsUtf8-lower bytes valid)) (IsUtf8-lower pattern p) in
    let past : drop n (lower bytes) ≡ lower (drop n bytes) = ap (drop n) all
    ∙ drop_at (lower pattern) (lower (drop n bytes)) n (length-map pattern to_ascii_lowercase) in
    let size : length (lower bytes) ≡ length bytes = length-map bytes to_ascii_lowercase in
    let cut : IsCharBoundary (lower bytes) n = IsCharBoundary-from_drop (lower bytes) n (omega (arith, size, within))
    (subst IsUtf8 (sym past) rest) in
    IsUtf8-take bytes n valid (
      within,
      λ there high.
          let read : get_or (lower bytes) n 0 ≡ get_or bytes n 0 = get_or-map to_ascii_lowercase bytes n 0 0 there
          ∙ lower_high (get_or bytes n 0) high in
          let lead = cut.1 (omega (arith, size, there)) (subst (λ b. 128 ≤ b) (sym read) high) in
          subst (λ b. 192 ≤ b) read lead,
    )
