-- Steps of the decoder by packed entries, and the test of a table of them.
use Rattle.std.proofs.Common.{◌≡◌, ℕ, zero, suc, ◌+◌, ◌-◌, ◌<◌, Bool, true, false, List, [], ◌∷◌, length}
use Rattle.std.proofs.Common.{slice_index, refl, sym, ap, subst, cond, ◌∙◌, arith, ◌&&◌, leb-true, ltb-true}
use Rattle.std.specs.Prelude.{nat_lt, nat_le, ◌||◌, ◌==◌, if◌then◌else◌}
use Rattle.std.specs.Char.{encode_utf8}
use Rattle.std.specs.Str.{bytes_eq}
use lib.Utf8.{scalar}
use lib.Pointwise.{bytes_decides}
use Rattle.std.proofs.lemmas.Bool.{and_parts, cond-true, cond-false}
use Rattle.std.proofs.lemmas.Bool.Decides.{nat_tests}
use Rattle.tendril_lossy.specs.Lossy.{Char}
use Rattle.tendril_decode.specs.Machines.{invalid}
use Rattle.tendril_decode.specs.Packed.{entry_len, entry_bytes, IsPacked, ArePacked}
use Rattle.tendril_decode.specs.Single.{tells_byte}

-- the code of a byte in a table
abbrev code_at : List ℕ → ℕ → ℕ
code_at table b = if nat_lt b 0x80 then b else slice_index table (b - 0x80)

abbrev none_ok : List ℕ → ℕ → Bool
none_ok table b = nat_le 0x80 b && (slice_index table (b - 0x80) == 0)

abbrev some_ok : List ℕ → ℕ → ℕ → Bool
some_ok table b e =
    (nat_le (entry_len e) 3 && scalar (code_at table b))
    && ((nat_lt b 0x80 || nat_lt 0 (slice_index table (b - 0x80)))
    && bytes_eq (entry_bytes e) (encode_utf8 (code_at table b)))

abbrev one_ok : List ℕ → ℕ → ℕ → Bool
one_ok table b e = cond (nat_lt 0 (entry_len e)) (some_ok table b e) (none_ok table b)

-- the entries of the bytes from b on
unfoldable pub entries_ok : List ℕ → ℕ → List ℕ → Bool
entries_ok table b [] = true
entries_ok table b (e ∷ es) = one_ok table b e && entries_ok table (suc b) es

tells_none : (table : List ℕ) (b : ℕ) → none_ok table b ≡ true → tells_byte table b ≡ invalid
tells_none table b h =
    let both = and_parts (nat_le 0x80 b) (slice_index table (b - 0x80) == 0) h in
    let le = leb-true 0x80 b both.0 in
    let high : nat_lt b 0x80 ≡ false = grind (arith, nat_tests) in
    cond-false _ _ _ high ∙ cond-true _ _ _ both.1

tells_some : (table : List ℕ) (b : ℕ) → (nat_lt b 0x80 || nat_lt 0 (slice_index table (b - 0x80))) ≡ true
    → tells_byte table b ≡ Char (code_at table b) ∷ []
tells_some table b h = by (nat_lt b 0x80) refl
  where
    by : (t : Bool) → nat_lt b 0x80 ≡ t → tells_byte table b ≡ Char (code_at table b) ∷ []
    by true e = cond-true _ _ _ e ∙ ap (λ c. Char c ∷ []) (sym (cond-true (nat_lt b 0x80) b _ e))
    by false e =
        let low = ap (λ t. t || nat_lt 0 (slice_index table (b - 0x80))) e in
        let above = ltb-true 0 (slice_index table (b - 0x80)) (sym low ∙ h) in
        let some : (slice_index table (b - 0x80) == 0) ≡ false = grind (arith, nat_tests) in
        cond-false _ _ _ e ∙ cond-false _ _ _ some ∙ ap (λ c. Char c ∷ []) (sym (cond-false (nat_lt b 0x80) b _ e))

one_packed : (table : List ℕ) (b e : ℕ) → one_ok table b e ≡ true → IsPacked table b e
one_packed table b e h = by (nat_lt 0 (entry_len e)) refl
  where
    by : (t : Bool) → nat_lt 0 (entry_len e) ≡ t → IsPacked table b e
    by true t =
        let some = ltb-true 0 (entry_len e) t in
        let all : some_ok table b e ≡ true = sym (cond-true _ _ _ t) ∙ h in
        let halves = and_parts (nat_le (entry_len e) 3 && scalar (code_at table b)) _ all in
        let front = and_parts (nat_le (entry_len e) 3) (scalar (code_at table b)) halves.0 in
        let back = and_parts (nat_lt b 0x80 || nat_lt 0 (slice_index table (b - 0x80))) _ halves.1 in
        record {
          few = leb-true (entry_len e) 3 front.0;
          broken = λ z. absurd (omega (arith, some, z));
          char = λ _. (code_at table b, front.1, tells_some table b back.0, (bytes_decides _ _).0 back.1);
        }
    by false t =
        let none : entry_len e ≡ 0 = grind (arith, nat_tests) in
        let all : none_ok table b ≡ true = sym (cond-false _ _ _ t) ∙ h in
        record {
          few = omega (arith, none);
          broken = λ z. tells_none table b all;
          char = λ some. absurd (omega (arith, some, none));
        }

entries_packed : (table : List ℕ) (n : ℕ) (es : List ℕ) → entries_ok table n es ≡ true → (k : ℕ) → k < length es
    → IsPacked table (n + k) (slice_index es k)
unfolding entries_ok
entries_packed table n [] h k lt = absurd (omega arith)
entries_packed table n (e ∷ es) h zero lt =
    let here : n ≡ n + zero = omega arith in
    subst (λ b. IsPacked table b e) here (one_packed table n e (and_parts (one_ok table n e) _ h).0)
entries_packed table n (e ∷ es) h (suc k) lt =
    let next : suc n + k ≡ n + suc k = omega arith in
    subst (λ b. IsPacked table b (slice_index es k)) next
    (entries_packed table (suc n) es (and_parts (one_ok table n e) _ h).1 k (omega arith))

pub all_packed : (table es : List ℕ) → entries_ok table 0 es ≡ true → length es ≡ 256 → ArePacked table es
all_packed table es ok len = record {
  each = λ b lt.
      let at : 0 + b ≡ b = omega arith in
      subst (λ n. IsPacked table n (slice_index es b)) at (entries_packed table 0 es ok b (omega (arith, len)));
}
