-- The decoding of a piece is passed on, text by text.
use Rattle.std.proofs.Common.{◌≡◌, ℕ, ◌+◌, ◌<◌, ◌≤◌, List, [], ◌∷◌, ◌++◌, length, drop, map, flat_map, Option}
use Rattle.std.proofs.Common.{Some, None, IsUtf8, refl, sym, ap, subst, ◌∙◌, arith, inl, ⊎_elim, append_assoc}
use Rattle.std.proofs.Common.{◌⊎◌, append-nil, codes, length-drop}
use Rattle.std.proofs.lemmas.Grind.{flat_map-append}
use Rattle.std.proofs.lemmas.List.{drop-drop}
use Rattle.std.proofs.lemmas.Str.{chars-nil, chars_from_encodes}
use Rattle.std.specs.List.{FoldsTo}
use Rattle.std.specs.Prelude.{IfSome, IsSomeAnd, chars}
use lib.Utf8.{encode}
use Rattle.tendril_errors.specs.declared.refusal.Refusal.{Refusal}
use Rattle.tendril_lossy.proofs.Fronts.{IsIncomplete-nil}
use Rattle.tendril_lossy.proofs.Lossy.{lossy-nil}
use Rattle.tendril_lossy.proofs.Resume.{closed-keeps, cut-keeps}
use Rattle.tendril_lossy.proofs.Streams.{only_lossy}
use Rattle.tendril_lossy.specs.Lossy.{Item, Told, Keep, Bad, Cut, Char, IsIncomplete, lossy, closed_of, due_open}
use Rattle.tendril_lossy.specs.Lossy.{cut_bytes}
use Rattle.tendril_lossy.specs.Lossy.{kept, replaced}
use Rattle.tendril_lossy.specs.declared.search.Ending.{Ending}
use Rattle.tendril_lossy.specs.declared.search.Ending.TheVariants.{Whole, Broken, Open}
use Rattle.tendril_storage.specs.Texts.{Text}
use Rattle.tendril_text.proofs.Decoding.{handed-through, rest-popped}
use Rattle.tendril_text.proofs.Feeds.{Feeds-append, Feeds-none, Feeds-one, Feeds-same, Feeds-weaker, Grows, Stops-after}
use Rattle.tendril_text.proofs.Feeds.{Stops-call, Stops-more, Stops-weaker}
use Rattle.tendril_text.specs.Decoding.{IsHandedOn, IsRest, Leaves, PopsText, broken_len, bytes_of, listed}
use Rattle.tendril_text.specs.Receivers.{Sent, Piece, Fault, Feeds, IsSentOf, PassesUpTo, RefusesCall, Stops, no_other}

-- U+FFFD, as a short text
replacement-text : IsUtf8 (0xEF ∷ 0xBF ∷ 0xBD ∷ [])
unfolding encode
replacement-text = (0xFFFD ∷ [], search)

pub replacement-handed : (b t : Text) → t.bytes ≡ 0xEF ∷ 0xBF ∷ 0xBD ∷ [] → t.copied ≡ 3 → IsHandedOn b t
replacement-handed b t is copied =
    let long = ap length is in
    record {
      some = omega (arith, long);
      text = subst IsUtf8 (sym is) replacement-text;
      within = λ more. absurd (omega (arith, long, more));
      part = (λ more. absurd (omega (arith, long, more)), λ _. omega (arith, copied));
    }

pub replacement-chars : (bytes : List ℕ) → bytes ≡ 0xEF ∷ 0xBF ∷ 0xBD ∷ [] → chars bytes ≡ 0xFFFD ∷ []
unfolding encode
replacement-chars bytes is = ap chars is
    ∙ sym (chars_from_encodes (0xFFFD ∷ []) (0xEF ∷ 0xBF ∷ 0xBD ∷ []) replacement-text search)

-- incomplete bytes output nothing while the stream may continue, and are kept
pub open_kept : (b : List ℕ) → IsIncomplete b → (due_open b ≡ []) × (kept b ≡ b)
open_kept [] is = (ap (flat_map closed_of) lossy-nil, ap cut_bytes lossy-nil)
open_kept (x ∷ xs) is =
    let some : 0 < length (x ∷ xs) = omega arith in
    let cut : lossy (x ∷ xs) ≡ Cut (x ∷ xs) ∷ [] =
    sym (only_lossy (x ∷ xs) (Cut (x ∷ xs) ∷ []) (some, refl, is, refl)) in
    (ap (flat_map closed_of) cut, ap cut_bytes cut)

-- the items after a text, before those of the remainder
abbrev pub tail_of : Ending → List Item
tail_of Whole = []
tail_of (Broken k) = Bad k ∷ []
tail_of Open = []

abbrev pub text_told : Option Text → List Told
text_told text = map Char (chars (bytes_of text))

-- the items of a piece from whose start a text is popped
abbrev items_of : Option Text → Ending → List Item
items_of text ending = map Keep (chars (bytes_of text)) ++ tail_of ending

pub record Popped (b : List ℕ) (text : Option Text) (ending : Ending) (c : List ℕ) : Type 0 where
  pub items : lossy b ≡ items_of text ending ++ lossy c
  pub keeps : kept b ≡ kept c

pub popped : (b c : Text) (text : Option Text) (ending : Ending) → PopsText b text ending c
    → Popped b.bytes text ending c.bytes
popped b c text ending h = by ending h.leaves
  where
    cs : List ℕ
    cs = chars (bytes_of text)

    both : (e : Ending) → h.after ≡ tail_of e ++ lossy c.bytes → cut_bytes (tail_of e ++ lossy c.bytes) ≡ kept c.bytes
        → Popped b.bytes text e c.bytes
    both e after keeps =
        let items = h.items ∙ ap (λ l. map Keep cs ++ l) after in record {
          items = items ∙ sym (append_assoc (map Keep cs) (tail_of e) (lossy c.bytes));
          keeps = ap cut_bytes items ∙ cut-keeps cs (tail_of e ++ lossy c.bytes) ∙ keeps;
        }

    by : (e : Ending) → Leaves e h.after c.bytes → Popped b.bytes text e c.bytes
    by Whole l = both Whole (l.0 ∙ sym (ap lossy l.1 ∙ lossy-nil)) refl
    by (Broken k) l = both (Broken k) l.0 refl
    by Open l = both Open (l.0 ∙ only_lossy c.bytes (Cut c.bytes ∷ []) (l.1, refl, l.2, refl)) refl

-- what is left if nothing is broken
pub left_open : (b c : Text) (text : Option Text) (ending : Ending) → PopsText b text ending c
    → (ending ≡ Whole) ⊎ (ending ≡ Open) → IsIncomplete c.bytes
left_open b c text ending h is = ⊎_elim
    (λ w. let left = subst (λ e. Leaves e h.after c.bytes) w h.leaves
    in subst IsIncomplete (sym left.1) IsIncomplete-nil)
    (λ o. let left = subst (λ e. Leaves e h.after c.bytes) o h.leaves in left.2) is

-- the output of a popped text, and of what ended it
closed_items : (text : Option Text) (ending : Ending) → flat_map closed_of (items_of text ending) ≡ text_told text
    ++ flat_map closed_of (tail_of ending)
closed_items text ending = closed-keeps (chars (bytes_of text)) (tail_of ending)

due_popped : (b c : List ℕ) (text : Option Text) (ending : Ending) → Popped b text ending c → due_open b
    ≡ text_told text ++ (flat_map closed_of (tail_of ending) ++ due_open c)
due_popped b c text ending p =
    ap (flat_map closed_of) p.items ∙ flat_map-append closed_of (items_of text ending) (lossy c)
    ∙ ap (λ l. l ++ due_open c) (closed_items text ending)
    ∙ append_assoc (text_told text) (flat_map closed_of (tail_of ending)) (due_open c)

-- what is passed of a remainder of a piece is passed of the piece
pub sent_through : (piece rest : Text) → IsRest piece rest → length rest.bytes ≤ length piece.bytes → (e : Sent)
    → IsSentOf rest e → IsSentOf piece e
sent_through piece rest part less (Piece t) h = handed-through piece rest part less t h
sent_through piece rest part less (Fault words) h = tt

module _ {S : Type 0} (takes : S → Sent → S → Type 0) where
  pub start : (piece : Text) (old : S) → PassesUpTo takes piece piece old old
  start piece old = record {
    at = 0;
    end = refl;
    part = inl refl;
    before = [];
    items = refl;
    keeps = refl;
    feeds = Feeds-none takes (IsSentOf piece) old;
  }

  pub shorter : (piece rest : Text) (old new : S) → PassesUpTo takes piece rest old new → length rest.bytes
      ≤ length piece.bytes
  shorter piece rest old new so = omega (arith, ap length so.end, length-drop so.at piece.bytes)

  pub due_left : (piece rest : Text) (old new : S) (so : PassesUpTo takes piece rest old new) → due_open piece.bytes
      ≡ flat_map closed_of so.before ++ due_open rest.bytes
  due_left piece rest old new so = ap (flat_map closed_of) so.items
      ∙ flat_map-append closed_of so.before (lossy rest.bytes)

  -- the text is passed on
  sends : (b : Text) (s u : S) (text : Option Text) → IfSome text (IsHandedOn b)
      → FoldsTo (λ s t u. takes s (Piece t) u) s (listed text) u → Feeds takes (IsSentOf b) s (text_told text) u
  sends b s u None h calls =
      Feeds-same takes (IsSentOf b) s u [] (text_told None) (sym (ap (map Char) chars-nil))
      (subst (λ v. Feeds takes (IsSentOf b) s [] v) calls (Feeds-none takes (IsSentOf b) s))
  sends b s u (Some t) h calls =
      Feeds-one takes (IsSentOf b) s (Piece t) u h (subst (λ v. takes s (Piece t) v) calls.2 calls.1)

  -- one more text is passed on, and what ended it
  pub more : (piece b c : Text) (old s u v : S) (text : Option Text) (ending : Ending)
      → PassesUpTo takes piece b old s → PopsText b text ending c
      → FoldsTo (λ s t u. takes s (Piece t) u) s (listed text) u
      → Feeds takes (IsSentOf b) u (flat_map closed_of (tail_of ending)) v → PassesUpTo takes piece c old v
  more piece b c old s u v text ending so h calls ends =
      let items = items_of text ending in
      let tail = flat_map closed_of (tail_of ending) in
      let p = popped b c text ending h in
      let n = length (bytes_of text) + broken_len ending in
      let one = Feeds-same takes (IsSentOf b) s v (text_told text ++ tail) (flat_map closed_of items)
      (sym (closed_items text ending))
      (Feeds-append takes (IsSentOf b) s u v (text_told text) tail (sends b s u text h.handed calls) ends) in
      record {
        at = so.at + n;
        end = h.rest ∙ ap (drop n) so.end ∙ drop-drop n so.at piece.bytes;
        part = rest-popped piece b c text ending so.part h;
        before = so.before ++ items;
        items = so.items ∙ ap (λ l. so.before ++ l) p.items ∙ sym (append_assoc so.before items (lossy c.bytes));
        keeps = so.keeps ∙ p.keeps;
        feeds = Feeds-same takes (IsSentOf piece) old v (flat_map closed_of so.before ++ flat_map closed_of items)
            (flat_map closed_of (so.before ++ items)) (sym (flat_map-append closed_of so.before items))
            (Feeds-append takes (IsSentOf piece) old s v (flat_map closed_of so.before) (flat_map closed_of items)
            so.feeds
            (Feeds-weaker takes (IsSentOf piece) (IsSentOf b)
            (sent_through piece b so.part (shorter piece b old s so)) s v (flat_map closed_of items) one));
      }

  -- the piece ends, but for an incomplete character
  pub ended : (piece b c : Text) (old s u : S) (text : Option Text) (ending : Ending) → PassesUpTo takes piece b old s
      → PopsText b text ending c → FoldsTo (λ s t u. takes s (Piece t) u) s (listed text) u
      → (ending ≡ Whole) ⊎ (ending ≡ Open) → PassesUpTo takes piece c old u
  ended piece b c old s u text ending so h calls is =
      let tail : Ending → List Told = λ e. flat_map closed_of (tail_of e) in
      let none : tail ending ≡ [] = ⊎_elim (ap tail) (ap tail) is in
      more piece b c old s u u text ending so h calls
      (Feeds-same takes (IsSentOf b) u u [] (flat_map closed_of (tail_of ending)) (sym none)
      (Feeds-none takes (IsSentOf b) u))

  -- all is passed on, but for an incomplete character at the end
  pub passed : (piece rest : Text) (old new : S) → PassesUpTo takes piece rest old new → IsIncomplete rest.bytes
      → Feeds takes (IsSentOf piece) old (due_open piece.bytes) new × (rest.bytes ≡ kept piece.bytes)
  passed piece rest old new so is =
      let left = open_kept rest.bytes is in (
        Feeds-same takes (IsSentOf piece) old new (flat_map closed_of so.before) (due_open piece.bytes)
            (sym (due_left piece rest old new so ∙ ap (λ l. flat_map closed_of so.before ++ l) left.0
            ∙ append-nil (flat_map closed_of so.before))) so.feeds,
        sym left.1 ∙ sym so.keeps,
      )

module _ {S : Type 0} (takes : S → Sent → S → Type 0) (refuses : S → Sent → Refusal → S → Type 0) where
  none_grows : Grows no_other
  none_grows x y r h = h

  -- the receiver returned an error for the remainder
  later : (piece b : Text) (old s v : S) (r : Refusal) → PassesUpTo takes piece b old s
      → Stops takes refuses (IsSentOf b) no_other s (due_open b.bytes) r v
      → Stops takes refuses (IsSentOf piece) no_other old (due_open piece.bytes) r v
  later piece b old s v r so stop =
      Stops-after takes refuses (IsSentOf piece) no_other old s v (flat_map closed_of so.before) (due_open b.bytes)
      (due_open piece.bytes) r so.feeds
      (Stops-weaker takes refuses (IsSentOf piece) no_other (IsSentOf b) no_other
      (sent_through piece b so.part (shorter takes piece b old s so)) (λ x r h. h) s v (due_open b.bytes) r stop)
      (sym (due_left takes piece b old s so))

  -- it returned one for the text
  pub unsent : (piece b c : Text) (old s u : S) (text : Option Text) (ending : Ending) (r : Refusal)
      → PassesUpTo takes piece b old s → PopsText b text ending c
      → IsSomeAnd text (λ t. RefusesCall refuses s (Piece t) r u)
      → Stops takes refuses (IsSentOf piece) no_other old (due_open piece.bytes) r u
  unsent piece b c old s u None ending r so h refused = absurd refused
  unsent piece b c old s u (Some t) ending r so h refused =
      later piece b old s u r so
      (Stops-call takes refuses (IsSentOf b) no_other s (Piece t)
      (flat_map closed_of (tail_of ending) ++ due_open c.bytes) (due_open b.bytes) r u h.handed
      (sym (due_popped b.bytes c.bytes (Some t) ending (popped b c (Some t) ending h))) refused)

  -- it returned one for the replacement of broken bytes
  pub stopped : (piece b c : Text) (old s u v : S) (text : Option Text) (k : ℕ) (r : Refusal)
      → PassesUpTo takes piece b old s → PopsText b text (Broken k) c
      → FoldsTo (λ s t u. takes s (Piece t) u) s (listed text) u
      → Stops takes refuses (IsSentOf b) no_other u (replaced (codes "invalid byte sequence")) r v
      → Stops takes refuses (IsSentOf piece) no_other old (due_open piece.bytes) r v
  stopped piece b c old s u v text k r so h calls stop =
      let words = replaced (codes "invalid byte sequence") in
      later piece b old s v r so
      (Stops-after takes refuses (IsSentOf b) no_other s u v (text_told text) (words ++ due_open c.bytes)
      (due_open b.bytes) r (sends takes b s u text h.handed calls)
      (Stops-more takes refuses (IsSentOf b) no_other none_grows u v words (due_open c.bytes)
      (words ++ due_open c.bytes) r stop refl)
      (sym (due_popped b.bytes c.bytes text (Broken k) (popped b c text (Broken k) h))))
