-- The characters of one to three bytes that begin in the first half of a block, one after another.
use Rattle.std.proofs.Common.{◌≡◌, ℕ, suc, ◌+◌, ◌<◌, ◌≤◌, true, false, ltb, List, [], ◌∷◌, ◌++◌}
use Rattle.std.proofs.Common.{length, map, get_or, slice_index, sym, ap, subst, ◌∙◌, arith, append_assoc}
use Rattle.std.proofs.Common.{append-nil, inl, inr, take, drop, ◌-◌}
use Rattle.std.proofs.lemmas.List.{get_or-take, length-take-le}
use Rattle.std.proofs.lemmas.Simd.{length-chunk}
use Rattle.std.specs.Simd.Lanes.{chunk}
use Rattle.std.proofs.lemmas.Bool.{cases_lt, cond-true, cond-false, le-ltb, lt-ltb}
use Rattle.tendril_fmt.specs.Units.{code_of_two, code_of_three, continues, starts, unit_of_bytes_at, unit_of_bytes}
use Rattle.tendril_fmt.specs.Wtf8.{IsWtf8}
use Rattle.tendril_fmt.specs.Proved.Units.{one_unit}
use Rattle.tendril_fmt.proofs.UnitFronts.{IsFront, block_byte, first_from, front_more, front_none}
use Rattle.tendril_fmt.proofs.UnitSplits.{SplitsAt}

unit_one : (a b c : ℕ) → a < 0x80 → unit_of_bytes a b c ≡ a
unit_one a b c low = cond-true (ltb a 0x80) a _ (lt-ltb a 0x80 low)

unit_two : (a b c : ℕ) → 0x80 ≤ a → a < 0xE0 → unit_of_bytes a b c ≡ code_of_two a b
unit_two a b c low high =
    cond-false (ltb a 0x80) a _ (le-ltb a 0x80 low)
    ∙ cond-true (ltb a 0xE0) (code_of_two a b) (code_of_three a b c) (lt-ltb a 0xE0 high)

unit_three : (a b c : ℕ) → 0xE0 ≤ a → unit_of_bytes a b c ≡ code_of_three a b c
unit_three a b c low =
    cond-false (ltb a 0x80) a _ (le-ltb a 0x80 (omega (arith, low)))
    ∙ cond-false (ltb a 0xE0) (code_of_two a b) (code_of_three a b c) (le-ltb a 0xE0 low)

module _ (bytes : List ℕ) (valid : IsWtf8 bytes) (enough : 16 ≤ length bytes)
    (few : (k : ℕ) → k < 8 → slice_index (chunk 0 16 bytes) k < 0xF0) where
  abbrev unit : ℕ → ℕ
  unit = unit_of_bytes_at (chunk 0 16 bytes)

  abbrev byte : ℕ → ℕ
  byte k = slice_index bytes k

  -- `us` are the units of the first q bytes, and those after the first half belong to a character that begins in it
  pub record IsWalked (us : List ℕ) (q : ℕ) : Type 0 where
    pub front : IsFront bytes q us
    pub from : 8 ≤ q
    pub near : q ≤ 10
    pub between : (i : ℕ) → 8 ≤ i → i < q → continues (byte i) ≡ true

  unit_is : (p : ℕ) → p < 8 → unit p ≡ unit_of_bytes (byte p) (byte (p + 1)) (byte (p + 2))
  unit_is p lt =
      let a = block_byte bytes p (omega arith) in
      let b = block_byte bytes (p + 1) (omega arith) in
      let c = block_byte bytes (p + 2) (omega arith) in
      cc (a, b, c)

  -- a character more
  record IsStep (us : List ℕ) (p q : ℕ) : Type 0 where
    pub front : IsFront bytes q (us ++ unit p ∷ [])
    pub more : p < q
    pub near : q ≤ p + 3
    pub between : (i : ℕ) → p + 1 ≤ i → i < q → continues (byte i) ≡ true

  step_of : (us : List ℕ) (p n c : ℕ) → IsFront bytes p us → SplitsAt (drop p bytes) c n → c < 0x1_0000 → unit p ≡ c
      → 0 < n → n ≤ 3 → ((i : ℕ) → p + 1 ≤ i → i < p + n → continues (byte i) ≡ true) → IsStep us p (p + n)
  step_of us p n c h s small is some short between = record {
    front = front_more bytes us (unit p ∷ []) p n c h s (one_unit c small ∙ ap (λ u. u ∷ []) (sym is));
    more = omega arith;
    near = omega arith;
    between = between;
  }

  step : (us : List ℕ) (p : ℕ) → p < 8 → IsFront bytes p us → (q : ℕ) × IsStep us p q
  step us p lt h =
      let first = first_from bytes us p h (omega arith) in
      let is = unit_is p lt in
      let a = byte p in
      let b = byte (p + 1) in
      let c = byte (p + 2) in
      let below : a < 0xF0 = omega (arith, few p lt, block_byte bytes p (omega arith)) in
      elim (cases_lt a 0x80) [
        | inl one ↦ (
          p + 1,
          step_of us p 1 a h (first.one one) (omega arith) (is ∙ unit_one a b c one) (omega arith) (omega arith)
              (λ i from to. absurd (omega arith)),
        )
        | inr more ↦ elim (cases_lt a 0xE0) [
          | inl two ↦ (
            p + 2,
            step_of us p 2 (code_of_two a b) h (first.two more two) (omega arith) (is ∙ unit_two a b c more two)
                (omega arith) (omega arith)
                (λ i from to. let here : p + 1 ≡ i = omega arith in
                subst (λ j. continues (byte j) ≡ true) here (first.second_continues more)),
          )
          | inr three ↦ (
            p + 3,
            step_of us p 3 (code_of_three a b c) h (first.three three below) (omega arith)
                (is ∙ unit_three a b c three) (omega arith) (omega arith)
                (λ i from to. elim (cases_lt i (p + 2)) [
                  | inl second ↦ let here : p + 1 ≡ i = omega arith in
                      subst (λ j. continues (byte j) ≡ true) here (first.second_continues more)
                  | inr third ↦ let here : p + 2 ≡ i = omega arith in
                      subst (λ j. continues (byte j) ≡ true) here (first.third_continues three)
                ]),
          )
        ]
      ]

  -- from the byte p on, where the characters before it end at q
  pub walk : (ys us : List ℕ) (p q : ℕ) → p + length ys ≡ 8
      → ((i : ℕ) → i < length ys → get_or ys i 0 ≡ byte (p + i)) → IsFront bytes q us → p ≤ q → q ≤ p + 2
      → ((i : ℕ) → p ≤ i → i < q → continues (byte i) ≡ true)
      → (to : ℕ) × IsWalked (us ++ map unit (starts p ys)) to
  walk [] us p q all is h from near between = (
    q,
    record {
      front = subst (IsFront bytes q) (sym (append-nil us)) h;
      from = omega arith;
      near = omega arith;
      between = λ i le lt. between i (omega arith) lt;
    },
  )
  walk (y ∷ ys) us p q all is h from near between =
      let here : y ≡ byte p = is 0 (omega arith) ∙ ap byte (omega arith) in
      let rest : (i : ℕ) → i < length ys → get_or ys i 0 ≡ byte (p + 1 + i) =
      λ i lt. is (suc i) (omega arith) ∙ ap byte (omega arith) in
      elim (cases_lt p q) [
        | inl inside ↦
            let skips : starts p (y ∷ ys) ≡ starts (p + 1) ys =
            cond-true (continues y) _ _ (ap continues here ∙ between p (omega arith) inside) in
            subst (λ l. (to : ℕ) × IsWalked (us ++ map unit l) to) (sym skips)
            (walk ys us (p + 1) q (omega arith) rest h (omega arith) (omega arith)
            (λ i le lt. between i (omega arith) lt))
        | inr end ↦
            let same : q ≡ p = omega arith in
            let there : IsFront bytes p us = subst (λ n. IsFront bytes n us) same h in
            let begins = (first_from bytes us p there (omega arith)).begins in
            let takes : starts p (y ∷ ys) ≡ p ∷ starts (p + 1) ys =
            cond-false (continues y) _ _ (ap continues here ∙ begins) in
            let next = step us p (omega arith) there in
            let one = next.1 in
            let joined : (us ++ unit p ∷ []) ++ map unit (starts (p + 1) ys) ≡ us ++ map unit (starts p (y ∷ ys)) =
            append_assoc us (unit p ∷ []) (map unit (starts (p + 1) ys)) ∙ ap (λ l. us ++ map unit l) (sym takes) in
            subst (λ l. (to : ℕ) × IsWalked l to) joined
            (walk ys (us ++ unit p ∷ []) (p + 1) next.0 (omega arith) rest one.front (omega (arith, one.more))
            (omega (arith, one.near)) one.between)
      ]

  -- the characters that begin in the first half end after r bytes of the second, where another begins
  pub walked : (r : ℕ) → r ≤ 8 → ((k : ℕ) → k < r → continues (slice_index (chunk 0 16 bytes) (8 + k)) ≡ true)
      → (r < 8 → continues (slice_index (chunk 0 16 bytes) (8 + r)) ≡ false)
      → IsFront bytes (8 + r) (map unit (starts 0 (take 8 (chunk 0 16 bytes))))
  walked r most belong stops =
      let block = chunk 0 16 bytes in
      let long : length (take 8 block) ≡ 8 = length-take-le 8 block (omega (arith, length-chunk 0 16 bytes enough)) in
      let w =
      walk (take 8 block) [] 0 0 (omega (arith, long))
      (λ i lt. get_or-take 8 block i 0 (omega (arith, long)) ∙ block_byte bytes i (omega (arith, long))
      ∙ ap byte (omega arith))
      (front_none bytes [] valid) (omega arith) (omega arith) (λ i from to. absurd (omega arith)) in
      let to = w.0 in
      let is = w.1 in
      let begins = (first_from bytes _ to is.front (omega (arith, is.near))).begins in
      let end : to ≡ 8 + r =
      elim (cases_lt to (8 + r)) [
        | inl less ↦
            let place : 8 + (to - 8) ≡ to = omega (arith, is.from) in
            let there = belong (to - 8) (omega (arith, is.from)) in
            let same = ap byte (sym place) ∙ sym (block_byte bytes (8 + (to - 8)) (omega (arith, is.near))) in
            let here = ap continues same in
            absurd (cc (here, there, begins))
        | inr from ↦ elim (cases_lt (8 + r) to) [
          | inl more ↦
              let there = is.between (8 + r) (omega arith) more in
              let here = ap continues (block_byte bytes (8 + r) (omega (arith, is.near))) in
              absurd (cc (here, there, stops (omega (arith, is.near))))
          | inr le ↦ omega (arith, from, le)
        ]
      ] in
      subst (λ n. IsFront bytes n (map unit (starts 0 (take 8 block)))) end is.front
