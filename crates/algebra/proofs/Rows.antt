-- Row operations keep the relations between columns.
-- Assumes nothing.
use mathlib.Core.Path.{◌≡◌, refl, sym, ◌∙◌}
use mathlib.Core.Logic.{◌≢◌}
use Prim.Native.Nat.{ℕ, suc, ◌<◌, ◌≤◌}
use native.Mathlib.Nat.{mod-eq_of_lt}
use native.Mathlib.Omega.{arith}
use native.Mathlib.Decide.{ℕ_discrete, dec_le}
use Rattle.field.specs.Field.{Ops, Field}
use Rattle.algebra.specs.Linear.{Table, combination}
use Rattle.algebra.specs.Steps.{In, RowIs, Exchanges}
use Rattle.algebra.proofs.Arithmetic.{ring, neg-mul, add-sub, combination_lin, combination_ext}
use Rattle.algebra.proofs.Outcome.{Adds, Small}

module _ (F : Ops) (L : Field F) (m w : ℕ) where
  open F use {q, add as ◌⊕◌, mul as ◌⊙◌, neg}

  infixl 60 ◌⊕◌
  infixl 70 ◌⊙◌
  -- what combines in T combines in U
  abbrev pub Keep : Table → Table → Type 0
  Keep T U = (n : ℕ) → n < w → (v : ℕ → ℕ) → Adds F m T n v → Adds F m U n v

  -- the row f is a row of T, or a combination of two
  pub data Made (T : Table) (f : ℕ → ℕ) : Type 0 where
    taken : (s : ℕ) → 1 ≤ s → s ≤ m → ((c : ℕ) → 1 ≤ c → c ≤ w → f c ≡ T s c) → Made T f
    mixed : (a b s k : ℕ) → 1 ≤ s → s ≤ m → 1 ≤ k → k ≤ m → ((c : ℕ) → 1 ≤ c → c ≤ w → f c ≡ a ⊙ T s c ⊕ b ⊙ T k c) → Made T f

  pub rows : (T U : Table) → ((r : ℕ) → 1 ≤ r → r ≤ m → Made T (U r)) → Keep T U
  rows T U h n l v e r x y = go (h r x y)
    where
      go : Made T (U r) → combination F (U r) v n ≡ U r (suc n)
      go (taken s s1 sm is) =
          combination_ext F L n (U r) (T s) v v (λ c p g. is c p (omega arith)) (λ c p g. refl)
          ∙ e s s1 sm ∙ sym (is (suc n) (omega arith) (omega arith))
      go (mixed a b s k s1 sm k1 km is) =
          combination_lin F L n a b (T s) (T k) (U r) v (λ c p g. is c p (omega arith))
          ∙ rw (e s s1 sm, e k k1 km) (sym (is (suc n) (omega arith) (omega arith)))

  -- one row is changed
  one_row : (T U : Table) (i : ℕ) → Made T (U i) → ((r c : ℕ) → In m w r c → r ≢ i → U r c ≡ T r c) → Keep T U
  one_row T U i made others =
      rows T U
      (λ r x y. elim (ℕ_discrete r i) [ yes e ↦ rw e made | no e ↦ taken r x y (λ c p g. others r c (omega arith) e) ])

  -- U has T's relations between columns, and T's entries before column j
  pub record Work (j : ℕ) (T U : Table) : Type 0 where
    pub keep : Keep T U
    pub back : Keep U T
    pub low : (r c : ℕ) → In m w r c → c < j → U r c ≡ T r c

  -- rows k and up are 0 before column j
  abbrev pub Zeros : ℕ → ℕ → Table → Type 0
  Zeros k j T = (r c : ℕ) → k ≤ r → r ≤ m → 1 ≤ c → c < j → T r c ≡ 0

  module _ {j i : ℕ} {f : ℕ → ℕ} {T U : Table} (R : RowIs m w i j f T U) where
    others : (r c : ℕ) → In m w r c → r ≢ i → U r c ≡ T r c
    others r c P n = R.kept r c P (λ e. absurd (n e))

    -- what row i is in every column, where its entries before column j are g's
    whole : 1 ≤ i → i ≤ m → (g : ℕ → ℕ) → ((c : ℕ) → j ≤ c → f c ≡ g c) → ((c : ℕ) → 1 ≤ c → c < j → T i c ≡ g c)
        → (c : ℕ) → 1 ≤ c → c ≤ w → U i c ≡ g c
    whole a b g new old c p l = elim (dec_le j c) [
      | yes h ↦ R.new c h l ∙ new c h
      | no h ↦ R.kept i c (omega arith) (λ e. omega arith) ∙ old c p (omega arith)
    ]

  module _ (k j : ℕ) {T U : Table} (small : Small F T) (z : Zeros k j T) (low : 1 ≤ k) (i : ℕ) (ki : k ≤ i) (im : i ≤ m) where
    -- row i += a times row s
    pub add_work : (s a : ℕ) → k ≤ s → s ≤ m → s ≢ i → RowIs m w i j (λ c. T i c ⊕ a ⊙ T s c) T U → Work j T U
    add_work s a ks sm si R =
        record {
          keep = one_row T U i (mixed 1 a i s (omega arith) im (omega arith) sm is) (others R);
          back =
              one_row U T i
              (mixed 1 (neg a) i s (omega arith) im (omega arith) sm
              (λ c p l. sym (rw (is c p l, others R s c (omega arith) si) (undo (T i c) (T s c) (small i c)))))
              (λ r c P n. sym (others R r c P n));
          low = λ r c P l. R.kept r c P (λ e. l);
        }
      where
        is : (c : ℕ) → 1 ≤ c → c ≤ w → U i c ≡ 1 ⊙ T i c ⊕ a ⊙ T s c
        is =
            whole R (omega arith) im (λ c. 1 ⊙ T i c ⊕ a ⊙ T s c) (λ c h. simp ring)
            (λ c p l. sym (rw (z s c ks sm p l) (simp ring (mod-eq_of_lt (small i c)))))

        undo : (x y : ℕ) → x < q → 1 ⊙ (1 ⊙ x ⊕ a ⊙ y) ⊕ neg a ⊙ y ≡ x
        undo x y h =
            let e : 1 ⊙ (1 ⊙ x ⊕ a ⊙ y) ⊕ neg a ⊙ y ≡ x ⊕ a ⊙ y ⊕ neg a ⊙ y = simp ring in
            e ∙ rw (neg-mul F L) (add-sub F L x (a ⊙ y) ∙ mod-eq_of_lt h)

    -- row i is a times itself, and b takes that back
    pub scale_work : (a b : ℕ) → b ⊙ a ≡ 1 → RowIs m w i j (λ c. a ⊙ T i c) T U → Work j T U
    scale_work a b e R =
        record {
          keep = one_row T U i (mixed a 0 i i (omega arith) im (omega arith) im is) (others R);
          back =
              one_row U T i
              (mixed b 0 i i (omega arith) im (omega arith) im (λ c p l. sym (rw (is c p l) (undo (T i c) (small i c)))))
              (λ r c P n. sym (others R r c P n));
          low = λ r c P l. R.kept r c P (λ e. l);
        }
      where
        is : (c : ℕ) → 1 ≤ c → c ≤ w → U i c ≡ a ⊙ T i c ⊕ 0 ⊙ T i c
        is =
            whole R (omega arith) im (λ c. a ⊙ T i c ⊕ 0 ⊙ T i c)
            (λ c h. sym (simp ring (mod-eq_of_lt (L.ring.mul-lt _ _))))
            (λ c p l. rw (z i c ki im p l) (sym (simp ring)))

        undo : (x : ℕ) → x < q → b ⊙ (a ⊙ x ⊕ 0 ⊙ x) ⊕ 0 ⊙ (a ⊙ x ⊕ 0 ⊙ x) ≡ x
        undo x h =
            let one : b ⊙ (a ⊙ x ⊕ 0 ⊙ x) ⊕ 0 ⊙ (a ⊙ x ⊕ 0 ⊙ x) ≡ b ⊙ a ⊙ x ⊕ 0 = simp ring in one ∙ rw e (simp ring (mod-eq_of_lt h))

  -- rows i and s are exchanged, which undoes itself
  module _ (k j : ℕ) (low : 1 ≤ k) (i s : ℕ) (ki : k ≤ i) (im : i ≤ m) (ks : k ≤ s) (sm : s ≤ m) where
    exchange-back : {A B : Table} → Exchanges m w i s j A B → Exchanges m w i s j B A
    exchange-back X =
        record {
          up = λ c a b. sym (X.down c a b);
          down = λ c a b. sym (X.up c a b);
          kept = λ r c P e d. sym (X.kept r c P e d);
        }

    exchanged : {A B : Table} → Exchanges m w i s j A B → ((r c : ℕ) → In m w r c → k ≤ r → c < j → A r c ≡ 0) → (r : ℕ) → 1 ≤ r → r ≤ m
        → Made A (B r)
    exchanged {A} {B} X low_zeros r a b = elim (ℕ_discrete r i) [
      | yes e ↦
          rw e
          (taken s (omega arith) sm
          (λ c p l. elim (dec_le j c) [
            | yes h ↦ X.up c h l
            | no h ↦ both c p l (omega arith) i s ki ks im sm
          ]))
      | no e ↦ elim (ℕ_discrete r s) [
        | yes d ↦
            rw d
            (taken i (omega arith) im
            (λ c p l. elim (dec_le j c) [
              | yes h ↦ X.down c h l
              | no h ↦ both c p l (omega arith) s i ks ki sm im
            ]))
        | no d ↦ taken r a b (λ c p l. X.kept r c (omega arith) (λ x. absurd (e x)) (λ x. absurd (d x)))
      ]
    ]
      where
        both : (c : ℕ) → 1 ≤ c → c ≤ w → c < j → (x y : ℕ) → k ≤ x → k ≤ y → x ≤ m → y ≤ m → B x c ≡ A y c
        both c p l h x y kx ky xm ym =
            X.kept x c (omega arith) (λ _. h) (λ _. h) ∙ low_zeros x c (omega arith) kx h ∙ sym (low_zeros y c (omega arith) ky h)

    pub exchange_work : {T U : Table} → Zeros k j T → Exchanges m w i s j T U → Work j T U
    exchange_work {T} {U} z X =
        record {
          keep = rows T U (exchanged X zeros);
          back = rows U T (exchanged (exchange-back X) (λ r c P kr h. X.kept r c P (λ _. h) (λ _. h) ∙ zeros r c P kr h));
          low = λ r c P l. X.kept r c P (λ _. l) (λ _. l);
        }
      where
        zeros : (r c : ℕ) → In m w r c → k ≤ r → c < j → T r c ≡ 0
        zeros r c P kr h = z r c kr P.1 P.2 h
