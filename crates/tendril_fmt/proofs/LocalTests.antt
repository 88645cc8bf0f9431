-- A slice of valid bytes passes the local tests exactly if it is valid.
use Rattle.std.proofs.Common.{◌≡◌, ℕ, ◌+◌, ◌-◌, ◌<◌, ◌≤◌, true, List, [], ◌∷◌, ◌++◌, length, take, drop, slice_range}
use Rattle.std.proofs.Common.{IsUtf8, refl, sym, ap, ap₂, subst, ◌∙◌, arith, inl, inr, ⊎_elim, append_assoc, append-nil}
use Rattle.std.proofs.Common.{length-append, length-drop, take-append-drop, take_at, drop_at, take_all}
use Rattle.std.specs.List.{AllByRecursion}
use Rattle.std.specs.Char.{encode_utf8}
use Rattle.std.specs.Str.{encode_utf8_all, all_scalars}
use Rattle.std.proofs.lemmas.Bool.{cases_lt, and_parts, and_from}
use Rattle.std.proofs.lemmas.List.{nil_from_length}
use Rattle.std.proofs.lemmas.Str.{length-encode, len_utf8_bounds, encodes-append}
use Rattle.tendril_fmt.specs.declared.futf.Meaning.{Meaning}
use Rattle.tendril_fmt.specs.declared.futf.Meaning.TheVariants.{Whole, LeadSurrogate, TrailSurrogate, Prefix, Suffix}
use Rattle.tendril_fmt.specs.CodePoints.{IsCodePoint}
use Rattle.tendril_fmt.specs.Wtf8.{IsWtf8}
use Rattle.tendril_fmt.specs.Classify.{Means}
use Rattle.tendril_fmt.specs.Local.{IsWhole, IsWholeOrSurrogate, StandsAccepted, PassesAsFront, PassesAsEnd}
use Rattle.tendril_fmt.specs.Local.{FrontTestIsWhole, EndTestIsWhole, SliceTestIsWhole}
use Rattle.tendril_fmt.proofs.Parts.{last_of}
use Rattle.tendril_fmt.specs.Proved.Cuts.{Opens, cut}
use Rattle.tendril_fmt.proofs.CodePointCuts.{cut_after, first_byte}
use Rattle.tendril_fmt.specs.Proved.Encodings.{IsCodePoint-scalar, IsScalar-from_bounds}
use Rattle.tendril_fmt.specs.Proved.Units.{IsWtf8-from_points, points_of}
use Rattle.tendril_fmt.specs.Proved.Unpaired.{AreUnpaired, AreUnpaired-points, AreUnpaired-front, AreUnpaired-end}

-- the bytes are the encodings of code points of which V holds
abbrev pub Spelt : (List ℕ → Type 0) → List ℕ → Type 0
Spelt V bs = (cs : List ℕ) × V cs × (encode_utf8_all cs ≡ bs)

-- what must hold of the accepted meanings P and the valid lists of code points V
pub record Fits (V : List ℕ → Type 0) (P : Meaning → Type 0) : Type 0 where
  pub empty : V []
  pub code_points : (cs : List ℕ) → V cs → AllByRecursion IsCodePoint cs
  pub front : (xs ys : List ℕ) → V (xs ++ ys) → V xs
  pub back : (xs ys : List ℕ) → V (xs ++ ys) → V ys
  pub means : (c : ℕ) → V (c ∷ [])
      → (m : Meaning) × P m × ((buf : List ℕ) (idx s n : ℕ) → slice_range buf s (s + n) ≡ encode_utf8 c
      → Means buf idx s n m)
  pub meant : (m : Meaning) → P m → (buf : List ℕ) (idx s n : ℕ) → Means buf idx s n m → (c : ℕ) × IsCodePoint c
      × (slice_range buf s (s + n) ≡ encode_utf8 c)

part_of : (xs ys zs : List ℕ) → slice_range (xs ++ (ys ++ zs)) (length xs) (length xs + length ys) ≡ ys
part_of xs ys zs =
    let e : length xs + length ys - length xs ≡ length ys = omega arith in
    ap₂ take e (drop_at xs (ys ++ zs) (length xs) refl) ∙ take_at ys zs (length ys) refl

module _ (V : List ℕ → Type 0) (P : Meaning → Type 0) (fits : Fits V P) where
  to_front : (part : List ℕ) → Spelt V part → PassesAsFront P part
  to_front part h = by h.0 h.1 h.2
    where
      by : (cs : List ℕ) → V cs → encode_utf8_all cs ≡ part → PassesAsFront P part
      by [] v e = inl (sym (ap length e))
      by (c ∷ cs) v e =
          let k = last_of c cs in
          let xs = encode_utf8_all k.0 in
          let ys = encode_utf8 k.1 in
          let is : part ≡ xs ++ (ys ++ []) = sym e ∙ ap encode_utf8_all k.2 ∙ encodes-append k.0 (k.1 ∷ []) in
          let m = fits.means k.1 (fits.back k.0 (k.1 ∷ []) (subst V k.2 v)) in
          let long : length part ≡ length xs + length ys = ap length is ∙ length-append xs (ys ++ [])
          ∙ ap (λ l. length xs + length l) (append-nil ys) in
          let some : 0 < length ys = omega (arith, length-encode k.1, (len_utf8_bounds k.1).0) in
          inr (
            length xs,
            length ys,
            m.0,
            record {
              from = omega arith;
              to = omega arith;
              within = omega arith;
              means = m.2 part (length part - 1) (length xs) (length ys)
                  (ap (λ l. slice_range l (length xs) (length xs + length ys)) is ∙ part_of xs ys []);
            },
            m.1,
          )

  to_end : (part : List ℕ) → Spelt V part → PassesAsEnd P part
  to_end part h = by h.0 h.1 h.2
    where
      by : (cs : List ℕ) → V cs → encode_utf8_all cs ≡ part → PassesAsEnd P part
      by [] v e = inl (sym (ap length e))
      by (c ∷ cs) v e =
          let ys = encode_utf8 c in
          let m = fits.means c (fits.front (c ∷ []) cs v) in
          let some : 0 < length ys = omega (arith, length-encode c, (len_utf8_bounds c).0) in
          inr (
            0,
            length ys,
            m.0,
            record {
              from = omega arith;
              to = omega arith;
              within = omega (arith, ap length e, length-append ys (encode_utf8_all cs));
              means = m.2 part 0 0 (length ys) (ap (λ l. slice_range l 0 (0 + length ys)) (sym e)
                  ∙ part_of [] ys (encode_utf8_all cs));
            },
            m.1,
          )

  none_spelt : (part : List ℕ) → length part ≡ 0 → Spelt V part
  none_spelt part none = ([], fits.empty, sym (nil_from_length part none))

  -- a prefix that passes its test is valid
  from_front : (part after : List ℕ) → Spelt V (part ++ after) → PassesAsFront P part → Spelt V part
  from_front part after h (inl none) = none_spelt part none
  from_front part after h (inr w) =
      let s = w.0 in
      let n = w.1 in
      let st = w.3 in
      let k = fits.meant w.2 w.4 part (length part - 1) s n st.means in
      let to = st.to in
      let within = st.within in
      let ends : s + n ≡ length part = omega arith in
      let last : drop s part ≡ encode_utf8 k.0 =
      sym (take_all (s + n - s) (drop s part) (omega (arith, length-drop s part))) ∙ k.2 in
      let is : part ≡ take s part ++ encode_utf8 k.0 = sym (take-append-drop s part)
      ∙ ap (λ l. take s part ++ l) last in
      let d = cut_after h.0 (take s part) k.0 after (fits.code_points h.0 h.1) k.1 (h.2 ∙ ap (λ l. l ++ after) is) in
      (d.front, fits.front d.front d.back (subst V {y = d.front ++ d.back} d.split h.1), d.before ∙ sym is)

  -- a suffix whose first byte begins an accepted sequence begins with no continuation byte
  opens : (part more : List ℕ) → StandsAccepted P part 0 → Opens (part ++ more)
  opens part more w =
      let s = w.0 in
      let n = w.1 in
      let st = w.3 in
      let k = fits.meant w.2 w.4 part 0 s n st.means in
      let from = st.from in
      let zero : s ≡ 0 = omega arith in
      let first : take n part ≡ encode_utf8 k.0 =
      sym (ap (λ j. slice_range part j (j + n)) zero
      ∙ ap (λ j. take j part) (let e : 0 + n - 0 ≡ n = omega arith in e)) ∙ k.2 in
      let is : encode_utf8 k.0 ++ (drop n part ++ more) ≡ part ++ more =
      sym (append_assoc (encode_utf8 k.0) (drop n part) more) ∙ ap (λ l. (l ++ drop n part) ++ more) (sym first)
      ∙ ap (λ l. l ++ more) (take-append-drop n part) in
      subst Opens is (first_byte k.0 (drop n part ++ more) k.1)

  from_end : (before part more : List ℕ) → Spelt V (before ++ (part ++ more)) → StandsAccepted P part 0
      → Spelt V (part ++ more)
  from_end before part more h w =
      let d = cut h.0 before (part ++ more) (fits.code_points h.0 h.1) h.2 (opens part more w) in
      (d.back, fits.back d.front d.back (subst V {y = d.front ++ d.back} d.split h.1), d.after)

  pub FrontTestIsWhole-fits : FrontTestIsWhole (Spelt V) P
  FrontTestIsWhole-fits part whole v f = (to_front part, from_front part f.0 (subst (Spelt V) f.1 v))

  pub EndTestIsWhole-fits : EndTestIsWhole (Spelt V) P
  EndTestIsWhole-fits part whole v f =
      let h = subst (Spelt V) (f.1 ∙ ap (λ l. f.0 ++ l) (sym (append-nil part))) v in (
        to_end part,
        λ w. ⊎_elim (none_spelt part) (λ a. subst (Spelt V) (append-nil part) (from_end f.0 part [] h a)) w,
      )

  pub SliceTestIsWhole-fits : SliceTestIsWhole (Spelt V) P
  SliceTestIsWhole-fits part whole v f =
      let h = subst (Spelt V) f.2 v in (
        λ u. (to_end part u, to_front part u),
        λ w. ⊎_elim (none_spelt part) (λ a. from_front part f.1 (from_end f.0 part f.1 h a) w.1) w.0,
      )

-- UTF-8: the lists of scalar values

scalar_parts : (xs ys : List ℕ) → all_scalars (xs ++ ys) ≡ true → (all_scalars xs ≡ true) × (all_scalars ys ≡ true)
scalar_parts [] ys h = (refl, h)
scalar_parts (x ∷ xs) ys h = let b = and_parts _ _ h in let k = scalar_parts xs ys b.1 in (and_from _ _ b.0 k.0, k.1)

scalar_points : (cs : List ℕ) → all_scalars cs ≡ true → AllByRecursion IsCodePoint cs
scalar_points [] h = tt
scalar_points (c ∷ cs) h = let b = and_parts _ _ h in (IsCodePoint-scalar c b.0, scalar_points cs b.1)

utf8_meant : (m : Meaning) → IsWhole m → (buf : List ℕ) (idx s n : ℕ) → Means buf idx s n m → (c : ℕ) × IsCodePoint c
    × (slice_range buf s (s + n) ≡ encode_utf8 c)
utf8_meant (Whole c) p buf idx s n h = (c, IsCodePoint-scalar c h.0, h.1)
utf8_meant (LeadSurrogate i) p buf idx s n h = absurd p
utf8_meant (TrailSurrogate i) p buf idx s n h = absurd p
utf8_meant (Prefix k) p buf idx s n h = absurd p
utf8_meant Suffix p buf idx s n h = absurd p

utf8_fits : Fits (λ cs. all_scalars cs ≡ true) IsWhole
utf8_fits = record {
  empty = refl;
  code_points = scalar_points;
  front = λ xs ys h. (scalar_parts xs ys h).0;
  back = λ xs ys h. (scalar_parts xs ys h).1;
  means = λ c v. (Whole c, tt, λ buf idx s n e. ((and_parts _ _ v).0, e));
  meant = utf8_meant;
}

-- UTF-8, in that form
abbrev AsSpelt : List ℕ → Type 0
AsSpelt = Spelt (λ cs. all_scalars cs ≡ true)

spelt_from : (bs : List ℕ) → IsUtf8 bs → AsSpelt bs
spelt_from bs u = (u.0, u.1.0, u.1.1)

spelt_to : (bs : List ℕ) → AsSpelt bs → IsUtf8 bs
spelt_to bs u = (u.0, (u.1, u.2))

-- so a slice of UTF-8 passes the local tests exactly if it is valid
pub FrontTestIsWhole-utf8 : FrontTestIsWhole IsUtf8 IsWhole
FrontTestIsWhole-utf8 part whole v f = let k = FrontTestIsWhole-fits _ _ utf8_fits part whole (spelt_from _ v) f in
    (λ u. k.0 (spelt_from part u), λ w. spelt_to part (k.1 w))

pub EndTestIsWhole-utf8 : EndTestIsWhole IsUtf8 IsWhole
EndTestIsWhole-utf8 part whole v f = let k = EndTestIsWhole-fits _ _ utf8_fits part whole (spelt_from _ v) f in
    (λ u. k.0 (spelt_from part u), λ w. spelt_to part (k.1 w))

pub SliceTestIsWhole-utf8 : SliceTestIsWhole IsUtf8 IsWhole
SliceTestIsWhole-utf8 part whole v f = let k = SliceTestIsWhole-fits _ _ utf8_fits part whole (spelt_from _ v) f in
    (λ u. k.0 (spelt_from part u), λ w. spelt_to part (k.1 w))

-- WTF-8: the lists of code points of which no lead is right before a trail

-- what an accepted meaning says of the bytes
pub wtf8_meant : (m : Meaning) → IsWholeOrSurrogate m → (buf : List ℕ) (idx s n : ℕ) → Means buf idx s n m
    → (c : ℕ) × IsCodePoint c × (slice_range buf s (s + n) ≡ encode_utf8 c)
wtf8_meant (Whole c) p buf idx s n h = (c, IsCodePoint-scalar c h.0, h.1)
wtf8_meant (LeadSurrogate i) p buf idx s n h = (0xD800 + i, omega (arith, h.0), h.1)
wtf8_meant (TrailSurrogate i) p buf idx s n h = (0xDC00 + i, omega (arith, h.0), h.1)
wtf8_meant (Prefix k) p buf idx s n h = absurd p
wtf8_meant Suffix p buf idx s n h = absurd p

wtf8_means : (c : ℕ) → IsCodePoint c → (m : Meaning) × IsWholeOrSurrogate m
    × ((buf : List ℕ) (idx s n : ℕ) → slice_range buf s (s + n) ≡ encode_utf8 c → Means buf idx s n m)
wtf8_means c top = ⊎_elim
    (λ (p : c < 0xD800). (Whole c, tt, λ buf idx s n e. (IsScalar-from_bounds c (inl p), e)))
    (λ (p : 0xD800 ≤ c). ⊎_elim
    (λ (q : c < 0xDC00). let same : c ≡ 0xD800 + (c - 0xD800) = omega arith in
    (LeadSurrogate (c - 0xD800), tt, λ buf idx s n e. (omega arith, e ∙ ap encode_utf8 same)))
    (λ (q : 0xDC00 ≤ c). ⊎_elim
    (λ (r : c < 0xE000). let same : c ≡ 0xDC00 + (c - 0xDC00) = omega arith in
    (TrailSurrogate (c - 0xDC00), tt, λ buf idx s n e. (omega arith, e ∙ ap encode_utf8 same)))
    (λ (r : 0xE000 ≤ c). (Whole c, tt, λ buf idx s n e. (IsScalar-from_bounds c (inr (r, top)), e)))
    (cases_lt c 0xE000))
    (cases_lt c 0xDC00))
    (cases_lt c 0xD800)

wtf8_fits : Fits AreUnpaired IsWholeOrSurrogate
wtf8_fits = record {
  empty = tt;
  code_points = AreUnpaired-points;
  front = AreUnpaired-front;
  back = AreUnpaired-end;
  means = λ c v. wtf8_means c v.0;
  meant = wtf8_meant;
}

wtf8_to : (bs : List ℕ) → Spelt AreUnpaired bs → IsWtf8 bs
wtf8_to bs h = subst IsWtf8 h.2 (IsWtf8-from_points h.0 h.1)

-- so a slice of WTF-8 passes the local tests exactly if it is valid
pub FrontTestIsWhole-wtf8 : FrontTestIsWhole IsWtf8 IsWholeOrSurrogate
FrontTestIsWhole-wtf8 part whole v f = let k = FrontTestIsWhole-fits _ _ wtf8_fits part whole (points_of _ v) f in
    (λ u. k.0 (points_of part u), λ w. wtf8_to part (k.1 w))

pub EndTestIsWhole-wtf8 : EndTestIsWhole IsWtf8 IsWholeOrSurrogate
EndTestIsWhole-wtf8 part whole v f = let k = EndTestIsWhole-fits _ _ wtf8_fits part whole (points_of _ v) f in
    (λ u. k.0 (points_of part u), λ w. wtf8_to part (k.1 w))

pub SliceTestIsWhole-wtf8 : SliceTestIsWhole IsWtf8 IsWholeOrSurrogate
SliceTestIsWhole-wtf8 part whole v f = let k = SliceTestIsWhole-fits _ _ wtf8_fits part whole (points_of _ v) f in
    (λ u. k.0 (points_of part u), λ w. wtf8_to part (k.1 w))
