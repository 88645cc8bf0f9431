-- The local tests read four bytes.
use Rattle.std.proofs.Common.{◌≡◌, ◌↔◌, ℕ, ◌+◌, ◌-◌, ◌<◌, ◌≤◌, List, [], length, take, drop, slice_range, IsUtf8, refl}
use Rattle.std.proofs.Common.{sym, ap, ap₂, ◌∙◌, arith, inl, inr, ⊎_elim, subst, take_all, length-drop, length-take-le}
use Rattle.std.proofs.Common.{drop-drop, take-take}
use Rattle.std.proofs.lemmas.Bool.{cases_lt}
use Rattle.std.proofs.lemmas.Str.{length-encode, len_utf8_bounds}
use Rattle.tendril_fmt.specs.declared.futf.Meaning.{Meaning}
use Rattle.tendril_fmt.specs.declared.futf.Meaning.TheVariants.{Whole, LeadSurrogate, TrailSurrogate, Prefix, Suffix}
use Rattle.tendril_fmt.specs.Classify.{Means, Stands}
use Rattle.tendril_fmt.specs.Local.{IsWhole, IsWholeOrSurrogate, StandsAccepted, PassesAsFront, PassesAsEnd}
use Rattle.tendril_fmt.specs.Local.{FrontTestIsWhole, EndTestIsWhole, SliceTestIsWhole, RestsOnFourBytes, first_four}
use Rattle.tendril_fmt.specs.Local.{last_four}
use Rattle.tendril_fmt.specs.Parts.{IsFrontOf, IsEndOf, IsSliceOf}
use Rattle.tendril_fmt.specs.Wtf8.{IsWtf8}
use Rattle.tendril_fmt.proofs.Sequences.{length-part}
use Rattle.tendril_fmt.proofs.LocalTests.{wtf8_meant, FrontTestIsWhole-utf8, EndTestIsWhole-utf8, SliceTestIsWhole-utf8}
use Rattle.tendril_fmt.proofs.LocalTests.{FrontTestIsWhole-wtf8, EndTestIsWhole-wtf8, SliceTestIsWhole-wtf8}

means_same : (m : Meaning) → IsWholeOrSurrogate m → (a b : List ℕ) (i j s t n : ℕ) → slice_range a s (s + n)
    ≡ slice_range b t (t + n) → Means a i s n m → Means b j t n m
means_same (Whole c) p a b i j s t n e h = (h.0, sym e ∙ h.1)
means_same (LeadSurrogate k) p a b i j s t n e h = (h.0, sym e ∙ h.1)
means_same (TrailSurrogate k) p a b i j s t n e h = (h.0, sym e ∙ h.1)
means_same (Prefix k) p a b i j s t n e h = absurd p
means_same Suffix p a b i j s t n e h = absurd p

at_most_four : (m : Meaning) → IsWholeOrSurrogate m → (a : List ℕ) (i s n : ℕ) → Stands a i s n m → n ≤ 4
at_most_four m p a i s n h =
    let k = wtf8_meant m p a i s n h.means in
    omega (arith, length-part a s n h.within, ap length k.2, length-encode k.0, (len_utf8_bounds k.0).1)

module _ (bs : List ℕ) (long : 4 ≤ length bs) where
  same_back : (s n : ℕ) → slice_range (drop (length bs - 4) bs) s (s + n)
      ≡ slice_range bs (length bs - 4 + s) (length bs - 4 + s + n)
  same_back s n =
      let d = length bs - 4 in
      let w : s + n - s ≡ d + s + n - (d + s) = omega arith in
      ap₂ take w (drop-drop s d bs)

  same_front : (n : ℕ) → n ≤ 4 → slice_range (take 4 bs) 0 (0 + n) ≡ slice_range bs 0 (0 + n)
  same_front n le = let w : 0 + n - 0 ≤ 4 = omega arith in take-take (0 + n - 0) 4 bs w

  four_back : length (drop (length bs - 4) bs) ≡ 4
  four_back = omega (arith, length-drop (length bs - 4) bs)

  four_front : length (take 4 bs) ≡ 4
  four_front = length-take-le 4 bs long

module _ (P : Meaning → Type 0) (pointed : (m : Meaning) → P m → IsWholeOrSurrogate m) (bs : List ℕ)
    (long : 4 ≤ length bs) where
  to_back : StandsAccepted P bs (length bs - 1)
      → StandsAccepted P (drop (length bs - 4) bs) (length (drop (length bs - 4) bs) - 1)
  to_back w =
      let s = w.0 in
      let n = w.1 in
      let h = w.3 in
      let d = length bs - 4 in
      let few = at_most_four w.2 (pointed w.2 w.4) bs (length bs - 1) s n h in
      let to = h.to in
      let within = h.within in
      let from = h.from in
      let four = four_back bs long in
      let place : d + (s - d) ≡ s = omega arith in
      let same : slice_range bs s (s + n) ≡ slice_range (drop d bs) (s - d) (s - d + n) =
      sym (same_back bs long (s - d) n ∙ ap (λ j. slice_range bs j (j + n)) place) in (
        s - d,
        n,
        w.2,
        record {
          from = omega arith;
          to = omega arith;
          within = omega arith;
          means = means_same w.2 (pointed w.2 w.4) bs (drop d bs) (length bs - 1) (length (drop d bs) - 1) s
              (s - d) n same h.means;
        },
        w.4,
      )

  from_back : StandsAccepted P (drop (length bs - 4) bs) (length (drop (length bs - 4) bs) - 1)
      → StandsAccepted P bs (length bs - 1)
  from_back w =
      let s = w.0 in
      let n = w.1 in
      let h = w.3 in
      let d = length bs - 4 in
      let to = h.to in
      let within = h.within in
      let from = h.from in
      let four = four_back bs long in (
        d + s,
        n,
        w.2,
        record {
          from = omega arith;
          to = omega arith;
          within = omega arith;
          means = means_same w.2 (pointed w.2 w.4) (drop d bs) bs (length (drop d bs) - 1) (length bs - 1) s (d + s) n
              (same_back bs long s n) h.means;
        },
        w.4,
      )

  to_start : StandsAccepted P bs 0 → StandsAccepted P (take 4 bs) 0
  to_start w =
      let s = w.0 in
      let n = w.1 in
      let h = w.3 in
      let few = at_most_four w.2 (pointed w.2 w.4) bs 0 s n h in
      let from = h.from in
      let to = h.to in
      let four = four_front bs long in
      let zero : s ≡ 0 = omega arith in
      let same : slice_range bs s (s + n) ≡ slice_range (take 4 bs) 0 (0 + n) =
      ap (λ j. slice_range bs j (j + n)) zero ∙ sym (same_front bs long n few) in (
        0,
        n,
        w.2,
        record {
          from = omega arith;
          to = omega arith;
          within = omega arith;
          means = means_same w.2 (pointed w.2 w.4) bs (take 4 bs) 0 0 s 0 n same h.means;
        },
        w.4,
      )

  from_start : StandsAccepted P (take 4 bs) 0 → StandsAccepted P bs 0
  from_start w =
      let s = w.0 in
      let n = w.1 in
      let h = w.3 in
      let from = h.from in
      let to = h.to in
      let within = h.within in
      let four = four_front bs long in
      let zero : s ≡ 0 = omega arith in
      let few : n ≤ 4 = omega arith in
      let same : slice_range (take 4 bs) s (s + n) ≡ slice_range bs 0 (0 + n) =
      ap (λ j. slice_range (take 4 bs) j (j + n)) zero ∙ same_front bs long n few in (
        0,
        n,
        w.2,
        record {
          from = omega arith;
          to = omega arith;
          within = omega arith;
          means = means_same w.2 (pointed w.2 w.4) (take 4 bs) bs 0 0 s 0 n same h.means;
        },
        w.4,
      )

  both_reads : (PassesAsFront P bs ↔ PassesAsFront P (drop (length bs - 4) bs))
      × (PassesAsEnd P bs ↔ PassesAsEnd P (take 4 bs))
  both_reads =
      let b = four_back bs long in
      let f = four_front bs long in (
        (
          (λ w. ⊎_elim (λ z. absurd (omega arith)) (λ a. inr (to_back a)) w),
          (λ w. ⊎_elim (λ z. absurd (omega arith)) (λ a. inr (from_back a)) w),
        ),
        (
          (λ w. ⊎_elim (λ z. absurd (omega arith)) (λ a. inr (to_start a)) w),
          (λ w. ⊎_elim (λ z. absurd (omega arith)) (λ a. inr (from_start a)) w),
        ),
      )

whole_pointed : (m : Meaning) → IsWhole m → IsWholeOrSurrogate m
whole_pointed (Whole c) p = tt
whole_pointed (LeadSurrogate i) p = absurd p
whole_pointed (TrailSurrogate i) p = absurd p
whole_pointed (Prefix k) p = absurd p
whole_pointed Suffix p = absurd p

module _ (P : Meaning → Type 0) (known : (m : Meaning) → P m → IsWholeOrSurrogate m) where
  rests : RestsOnFourBytes P
  rests bs = ⊎_elim
      (λ (short : length bs < 4).
      let front : first_four bs ≡ bs = take_all 4 bs (omega arith) in
      let none : length bs - 4 ≡ 0 = omega arith in
      let back : last_four bs ≡ bs = ap (λ k. drop k bs) none in (
        ((λ w. subst (PassesAsFront P) (sym back) w), (λ w. subst (PassesAsFront P) back w)),
        ((λ w. subst (PassesAsEnd P) (sym front) w), (λ w. subst (PassesAsEnd P) front w)),
      ))
      (λ (long : 4 ≤ length bs). both_reads P known bs long)
      (cases_lt (length bs) 4)

-- so the tests of UTF-8 and of WTF-8 do
pub RestsOnFourBytes-whole : RestsOnFourBytes IsWhole
RestsOnFourBytes-whole = rests IsWhole whole_pointed

pub RestsOnFourBytes-whole_or_surrogate : RestsOnFourBytes IsWholeOrSurrogate
RestsOnFourBytes-whole_or_surrogate = rests IsWholeOrSurrogate (λ m p. p)

-- a slice by its first and last four bytes
module _ (valid : List ℕ → Type 0) (P : Meaning → Type 0) (reads : RestsOnFourBytes P)
    (slices : SliceTestIsWhole valid P) where
  pub slice_decides : (part whole first last : List ℕ) → valid whole → IsSliceOf part whole → first ≡ first_four part
      → last ≡ last_four part
      → (valid part ↔ (PassesAsEnd P first × PassesAsFront P last))
  slice_decides part whole first last v in_whole e f =
      let k = slices part whole v in_whole in
      let r = reads part in (
        (λ h. let w = k.0 h in (
          subst (PassesAsEnd P) (sym e) (r.1.0 w.0),
          subst (PassesAsFront P) (sym f)
              (r.0.0 w.1),
        )),
        (λ h. k.1 (r.1.1 (subst (PassesAsEnd P) e h.0), r.0.1 (subst (PassesAsFront P) f h.1))),
      )

pub utf8_slice_decides : (part whole first last : List ℕ) → IsUtf8 whole → IsSliceOf part whole
    → first ≡ first_four part → last ≡ last_four part
    → (IsUtf8 part ↔ (PassesAsEnd IsWhole first × PassesAsFront IsWhole last))
utf8_slice_decides = slice_decides IsUtf8 IsWhole RestsOnFourBytes-whole SliceTestIsWhole-utf8

pub wtf8_slice_decides : (part whole first last : List ℕ) → IsWtf8 whole → IsSliceOf part whole
    → first ≡ first_four part → last ≡ last_four part
    → (IsWtf8 part ↔ (PassesAsEnd IsWholeOrSurrogate first × PassesAsFront IsWholeOrSurrogate last))
wtf8_slice_decides = slice_decides IsWtf8 IsWholeOrSurrogate RestsOnFourBytes-whole_or_surrogate SliceTestIsWhole-wtf8

-- a prefix by its last four bytes, and a suffix by its first four: the side that isn't tested is empty
module _ (valid : List ℕ → Type 0) (P : Meaning → Type 0) (reads : RestsOnFourBytes P) where
  pub front_decides : FrontTestIsWhole valid P → (part whole last : List ℕ) → valid whole → IsFrontOf part whole
      → last ≡ last_four part
      → (valid part ↔ (PassesAsEnd P [] × PassesAsFront P last))
  front_decides fronts part whole last v in_whole f =
      let k = fronts part whole v in_whole in
      let r = (reads part).0 in (
        (λ h. (inl refl, subst (PassesAsFront P) (sym f) (r.0 (k.0 h)))),
        (λ h. k.1 (r.1 (subst (PassesAsFront P) f h.1))),
      )

  pub end_decides : EndTestIsWhole valid P → (part whole first : List ℕ) → valid whole → IsEndOf part whole
      → first ≡ first_four part
      → (valid part ↔ (PassesAsEnd P first × PassesAsFront P []))
  end_decides ends part whole first v in_whole f =
      let k = ends part whole v in_whole in
      let r = (reads part).1 in (
        (λ h. (subst (PassesAsEnd P) (sym f) (r.0 (k.0 h)), inl refl)),
        (λ h. k.1 (r.1 (subst (PassesAsEnd P) f h.0))),
      )

pub utf8_front_decides : (part whole last : List ℕ) → IsUtf8 whole → IsFrontOf part whole → last ≡ last_four part
    → (IsUtf8 part ↔ (PassesAsEnd IsWhole [] × PassesAsFront IsWhole last))
utf8_front_decides = front_decides IsUtf8 IsWhole RestsOnFourBytes-whole FrontTestIsWhole-utf8

pub utf8_end_decides : (part whole first : List ℕ) → IsUtf8 whole → IsEndOf part whole → first ≡ first_four part
    → (IsUtf8 part ↔ (PassesAsEnd IsWhole first × PassesAsFront IsWhole []))
utf8_end_decides = end_decides IsUtf8 IsWhole RestsOnFourBytes-whole EndTestIsWhole-utf8

pub wtf8_front_decides : (part whole last : List ℕ) → IsWtf8 whole → IsFrontOf part whole → last ≡ last_four part
    → (IsWtf8 part ↔ (PassesAsEnd IsWholeOrSurrogate [] × PassesAsFront IsWholeOrSurrogate last))
wtf8_front_decides = front_decides IsWtf8 IsWholeOrSurrogate RestsOnFourBytes-whole_or_surrogate FrontTestIsWhole-wtf8

pub wtf8_end_decides : (part whole first : List ℕ) → IsWtf8 whole → IsEndOf part whole → first ≡ first_four part
    → (IsWtf8 part ↔ (PassesAsEnd IsWholeOrSurrogate first × PassesAsFront IsWholeOrSurrogate []))
wtf8_end_decides = end_decides IsWtf8 IsWholeOrSurrogate RestsOnFourBytes-whole_or_surrogate EndTestIsWhole-wtf8
