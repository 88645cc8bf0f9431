-- Lists of calls that a receiver accepted, one after another.
use Rattle.std.proofs.Common.{◌≡◌, List, [], ◌∷◌, ◌++◌, refl, sym, ap, ap₂, subst, inl, inr, ⊎_elim, ◌∙◌, append_assoc}
use Rattle.std.proofs.Common.{append-nil}
use Rattle.std.specs.List.{FoldsTo}
use Rattle.std.proofs.lemmas.List.Elements.{All-append, All-nil, All-cons, All-weaker}
use Rattle.tendril_lossy.specs.Lossy.{Told}
use Rattle.tendril_text.specs.Receivers.{Sent, told, told_of, Feeds, IsStop, RefusesCall, Stops}
use Rattle.tendril_errors.specs.declared.refusal.Refusal.{Refusal}

pub FoldsTo-append : {S A : Type 0} (R : S → A → S → Type 0) (a : S) (xs : List A) (b : S) (ys : List A) (c : S)
    → FoldsTo R a xs b → FoldsTo R b ys c → FoldsTo R a (xs ++ ys) c
FoldsTo-append R a [] b ys c h k = subst (λ s. FoldsTo R s ys c) (sym h) k
FoldsTo-append R a (x ∷ xs) b ys c h k = (h.0, h.1, FoldsTo-append R h.0 xs b ys c h.2 k)

pub told-append : (xs ys : List Sent) → told (xs ++ ys) ≡ told xs ++ told ys
told-append [] ys = refl
told-append (x ∷ xs) ys = ap (λ l. told_of x ++ l) (told-append xs ys)
    ∙ sym (append_assoc (told_of x) (told xs) (told ys))

module _ {S : Type 0} (takes : S → Sent → S → Type 0) (fit : Sent → Type 0) where
  pub Feeds-none : (a : S) → Feeds takes fit a [] a
  Feeds-none a = record { sent = []; each = All-nil fit; calls = refl; tells = refl }

  pub Feeds-one : (a : S) (e : Sent) (b : S) → fit e → takes a e b → Feeds takes fit a (told_of e) b
  Feeds-one a e b is h = record {
    sent = e ∷ [];
    each = All-cons fit e [] is (All-nil fit);
    calls = (b, h, refl);
    tells = append-nil (told_of e);
  }

  pub Feeds-append : (a b c : S) (x y : List Told) → Feeds takes fit a x b → Feeds takes fit b y c
      → Feeds takes fit a (x ++ y) c
  Feeds-append a b c x y h k = record {
    sent = h.sent ++ k.sent;
    each = All-append fit h.sent k.sent h.each k.each;
    calls = FoldsTo-append takes a h.sent b k.sent c h.calls k.calls;
    tells = told-append h.sent k.sent ∙ ap₂ (λ l m. l ++ m) h.tells k.tells;
  }

  pub Feeds-same : (a b : S) (x y : List Told) → x ≡ y → Feeds takes fit a x b → Feeds takes fit a y b
  Feeds-same a b x y e h = subst (λ l. Feeds takes fit a l b) e h

  -- calls that are fit for less are fit for more
  pub Feeds-weaker : (other : Sent → Type 0) → ((e : Sent) → other e → fit e) → (a b : S) (x : List Told)
      → Feeds takes other a x b → Feeds takes fit a x b
  Feeds-weaker other weaker a b x h = record {
    sent = h.sent;
    each = All-weaker other fit weaker h.sent h.each;
    calls = h.calls;
    tells = h.tells;
  }

-- a list that is longer permits the same errors
abbrev pub Grows : (List Told → Refusal → Type 0) → Type 0
Grows may = (x y : List Told) (r : Refusal) → may x r → may (x ++ y) r

module _ {S : Type 0} (takes : S → Sent → S → Type 0) (refuses : S → Sent → Refusal → S → Type 0) (fit : Sent → Type 0)
    (may : List Told → Refusal → Type 0) where
  -- an error before anything was sent
  pub Stops-here : (a : S) (due : List Told) (e : Refusal) (c : S) → IsStop refuses fit may a due e c
      → Stops takes refuses fit may a due e c
  Stops-here a due e c h =
      record { sent = []; each = All-nil fit; mid = a; calls = refl; rest = due; front = refl; stop = h }

  -- an error for the first call
  pub Stops-call : (a : S) (call : Sent) (x due : List Told) (e : Refusal) (c : S) → fit call → told_of call ++ x ≡ due
      → RefusesCall refuses a call e c → Stops takes refuses fit may a due e c
  Stops-call a call x due e c is front h = Stops-here a due e c
      (inr (record { call = call; is_fit = is; rest = x; front = front; refused = h }))

  pub Stops-after : (a b c : S) (x y z : List Told) (e : Refusal) → Feeds takes fit a x b
      → Stops takes refuses fit may b y e c → x ++ y ≡ z → Stops takes refuses fit may a z e c
  Stops-after a b c x y z e h k is = record {
    sent = h.sent ++ k.sent;
    each = All-append fit h.sent k.sent h.each k.each;
    mid = k.mid;
    calls = FoldsTo-append takes a h.sent b k.sent k.mid h.calls k.calls;
    rest = k.rest;
    front = ap (λ l. l ++ k.rest) (told-append h.sent k.sent) ∙ append_assoc (told h.sent) (told k.sent) k.rest
        ∙ ap₂ (λ l m. l ++ m) h.tells k.front ∙ is;
    stop = k.stop;
  }

  -- the same error, if more is to be sent after it
  stop_more : Grows may → (mid : S) (x y : List Told) (e : Refusal) (c : S) → IsStop refuses fit may mid x e c
      → IsStop refuses fit may mid (x ++ y) e c
  stop_more grows mid x y e c (inl h) = inl (grows x y e h.0, h.1)
  stop_more grows mid x y e c (inr h) = inr (record {
    call = h.call;
    is_fit = h.is_fit;
    rest = h.rest ++ y;
    front = sym (append_assoc (told_of h.call) h.rest y) ∙ ap (λ l. l ++ y) h.front;
    refused = h.refused;
  })

  pub Stops-more : Grows may → (a c : S) (x y z : List Told) (e : Refusal) → Stops takes refuses fit may a x e c
      → x ++ y ≡ z → Stops takes refuses fit may a z e c
  Stops-more grows a c x y z e k is = record {
    sent = k.sent;
    each = k.each;
    mid = k.mid;
    calls = k.calls;
    rest = k.rest ++ y;
    front = sym (append_assoc (told k.sent) k.rest y) ∙ ap (λ l. l ++ y) k.front ∙ is;
    stop = stop_more grows k.mid k.rest y e c k.stop;
  }

  -- calls and errors that are fit and permitted for less
  pub Stops-weaker : (fit' : Sent → Type 0) (may' : List Told → Refusal → Type 0) → ((e : Sent) → fit' e → fit e)
      → ((x : List Told) (r : Refusal) → may' x r → may x r) → (a c : S) (x : List Told) (e : Refusal)
      → Stops takes refuses fit' may' a x e c → Stops takes refuses fit may a x e c
  Stops-weaker fit' may' fits mays a c x e k = record {
    sent = k.sent;
    each = All-weaker fit' fit fits k.sent k.each;
    mid = k.mid;
    calls = k.calls;
    rest = k.rest;
    front = k.front;
    stop = ⊎_elim (λ h. inl (mays k.rest e h.0, h.1)) (λ h. inr (record {
      call = h.call;
      is_fit = fits h.call h.is_fit;
      rest = h.rest;
      front = h.front;
      refused = h.refused;
    })) k.stop;
  }
