-- Laws of lists that several crates use.
use Rattle.std.specs.Prelude.{if◌then◌else◌}
use mathlib.Core.Path.{◌≡◌, refl, sym, ap, ap₂, ◌∙◌}
use mathlib.Core.Bool.{Bool, true, false, cond, ◌&&◌}
use mathlib.Core.List.{List, [], ◌∷◌, ◌++◌, map}
use Prim.Native.Nat.{ℕ, zero, suc, ◌≤◌, zero-le}
use native.Mathlib.Omega.{arith}
use lib.ListN.{length, take, get_or}
use Rattle.std.specs.Int.{from_bool}
use Rattle.laws.specs.Words.{bit_if, keep, Every}

-- whichever way a test goes
pub if_all : {A : Type 0} (P : A → Type 0) (b : Bool) (x y : A) → P x → P y → P (if b then x else y)
if_all P true x y p q = p
if_all P false x y p q = q

-- the same, with what the test said
pub if_with : {A : Type 0} (P : A → Type 0) (b : Bool) (x y : A) → (b ≡ true → P x) → (b ≡ false → P y) → P (if b then x else y)
if_with P true x y p q = p refl
if_with P false x y p q = q refl

module _ {A : Type 0} where
  pub every_map : {P Q : A → Type 0} → ((x : A) → P x → Q x) → (xs : List A) → Every P xs → Every Q xs
  every_map f [] h = tt
  every_map f (x ∷ xs) h = (f x h.0, every_map f xs h.1)

  pub every_both : (P Q : A → Type 0) (xs : List A) → Every P xs → Every Q xs → Every (λ x. P x × Q x) xs
  every_both P Q [] h k = tt
  every_both P Q (x ∷ xs) h k = ((h.0, k.0), every_both P Q xs h.1 k.1)

  pub every_all : {P : A → Type 0} → ((x : A) → P x) → (xs : List A) → Every P xs
  every_all f [] = tt
  every_all f (x ∷ xs) = (f x, every_all f xs)

  pub every_take : (P : A → Type 0) (n : ℕ) (xs : List A) → Every P xs → Every P (take n xs)
  every_take P zero xs h = tt
  every_take P (suc n) [] h = tt
  every_take P (suc n) (x ∷ xs) h = (h.0, every_take P n xs h.1)

  pub every_append : (P : A → Type 0) (xs ys : List A) → Every P xs → Every P ys → Every P (xs ++ ys)
  every_append P [] ys h k = k
  every_append P (x ∷ xs) ys h k = (h.0, every_append P xs ys h.1 k)

  pub every_keep : (P : A → Type 0) (t : A → Bool) (xs : List A) → Every P xs → Every P (keep t xs)
  every_keep P t [] h = tt
  every_keep P t (x ∷ xs) h = go (t x) (every_keep P t xs h.1)
    where
      go : (b : Bool) → Every P (keep t xs) → Every P (cond b (x ∷ keep t xs) (keep t xs))
      go true r = (h.0, r)
      go false r = r

  -- those kept pass the test
  pub keep_passes : (t : A → Bool) (xs : List A) → Every (λ x. t x ≡ true) (keep t xs)
  keep_passes t [] = tt
  keep_passes t (x ∷ xs) = go (t x) refl (keep_passes t xs)
    where
      go : (b : Bool) → t x ≡ b → Every (λ x. t x ≡ true) (keep t xs) → Every (λ x. t x ≡ true) (cond b (x ∷ keep t xs) (keep t xs))
      go true e r = (e, r)
      go false e r = r

  pub keep_same : (t u : A → Bool) (xs : List A) → Every (λ x. t x ≡ u x) xs → keep t xs ≡ keep u xs
  keep_same t u [] h = refl
  keep_same t u (x ∷ xs) h = ap₂ (λ b ys. cond b (x ∷ ys) ys) h.0 (keep_same t u xs h.1)

  pub length-keep : (t : A → Bool) (xs : List A) → length (keep t xs) ≤ length xs
  length-keep t [] = zero-le
  length-keep t (x ∷ xs) = go (t x) (length-keep t xs)
    where
      go : (b : Bool) → length (keep t xs) ≤ length xs → length (cond b (x ∷ keep t xs) (keep t xs)) ≤ suc (length xs)
      go true h = omega arith
      go false h = omega arith

  -- a stronger test keeps no more
  pub keep_fewer : (t u : A → Bool) (xs : List A) → Every (λ x. t x ≡ true → u x ≡ true) xs → length (keep t xs) ≤ length (keep u xs)
  keep_fewer t u [] h = zero-le
  keep_fewer t u (x ∷ xs) h = go (t x) refl (u x) refl (keep_fewer t u xs h.1)
    where
      go : (b : Bool) → t x ≡ b → (c : Bool) → u x ≡ c → length (keep t xs) ≤ length (keep u xs)
          → length (cond b (x ∷ keep t xs) (keep t xs)) ≤ length (cond c (x ∷ keep u xs) (keep u xs))
      go true e true f r = omega arith
      go true e false f r = let z : ◌≡◌ {A = Bool} true false = sym (h.0 e) ∙ f in let w : ◌≡◌ {A = ℕ} 0 1 = cc in absurd (omega arith)
      go false e true f r = omega arith
      go false e false f r = r

  pub keep-keep : (t u : A → Bool) (xs : List A) → keep t (keep u xs) ≡ keep (λ x. u x && t x) xs
  keep-keep t u [] = refl
  keep-keep t u (x ∷ xs) = go (u x) (t x) (keep-keep t u xs)
    where
      go : (b c : Bool) → keep t (keep u xs) ≡ keep (λ x. u x && t x) xs → keep t (cond b (x ∷ keep u xs) (keep u xs)) ≡ cond (b && t x) (x ∷ keep (λ x. u x && t x) xs) (keep (λ x. u x && t x) xs)
      go true c h = rw h
      go false c h = h

module _ {A B : Type 0} where
  pub every_image : (P : B → Type 0) (f : A → B) (xs : List A) → Every (λ x. P (f x)) xs → Every P (map f xs)
  every_image P f [] h = tt
  every_image P f (x ∷ xs) h = (h.0, every_image P f xs h.1)

  pub every_back : (P : B → Type 0) (f : A → B) (xs : List A) → Every P (map f xs) → Every (λ x. P (f x)) xs
  every_back P f [] h = tt
  every_back P f (x ∷ xs) h = (h.0, every_back P f xs h.1)

  pub keep-map : (t : B → Bool) (f : A → B) (xs : List A) → keep t (map f xs) ≡ map f (keep (λ x. t (f x)) xs)
  keep-map t f [] = refl
  keep-map t f (x ∷ xs) = go (t (f x)) (keep-map t f xs)
    where
      go : (b : Bool) → keep t (map f xs) ≡ map f (keep (λ x. t (f x)) xs)
          → cond b (f x ∷ keep t (map f xs)) (keep t (map f xs)) ≡ map f (cond b (x ∷ keep (λ x. t (f x)) xs) (keep (λ x. t (f x)) xs))
      go true h = ap (λ r. f x ∷ r) h
      go false h = h

  pub map_same : (f g : A → B) (xs : List A) → Every (λ x. f x ≡ g x) xs → map f xs ≡ map g xs
  map_same f g [] h = refl
  map_same f g (x ∷ xs) h = ap₂ (λ y ys. y ∷ ys) h.0 (map_same f g xs h.1)

-- ---- tests

-- std's number of a test
pub bit_from : (b : Bool) → from_bool b ≡ bit_if b
bit_from true = refl
bit_from false = refl

pub and_l : (a b : Bool) → a && b ≡ true → a ≡ true
and_l true b e = refl
and_l false b e = e

pub and_r : (a b : Bool) → a && b ≡ true → b ≡ true
and_r true b e = e
and_r false b e = let z : ◌≡◌ {A = ℕ} 0 1 = cc in absurd (omega arith)

-- ---- bytes

-- a list by its elements
pub two_of : (v : List ℕ) → length v ≡ 2 → get_or v 0 0 ∷ get_or v 1 0 ∷ [] ≡ v
two_of [] e = absurd (omega arith)
two_of (a ∷ []) e = absurd (omega arith)
two_of (a ∷ b ∷ []) e = refl
two_of (a ∷ b ∷ c ∷ v) e = absurd (omega arith)

-- the first four
abbrev pub four : List ℕ → List ℕ
four v = get_or v 0 0 ∷ get_or v 1 0 ∷ get_or v 2 0 ∷ get_or v 3 0 ∷ []

pub four_of : (v : List ℕ) → length v ≡ 4 → four v ≡ v
four_of [] e = absurd (omega arith)
four_of (a ∷ []) e = absurd (omega arith)
four_of (a ∷ b ∷ v) e = ap (λ l. a ∷ b ∷ l) (two_of v (omega arith))

-- three blocks of four, and what lies behind them
pub blocks_before : (a b c : List ℕ) → length a ≡ 4 → length b ≡ 4 → length c ≡ 4 → (z : List ℕ) → four a ++ four b ++ four c ++ z ≡ a ++ b ++ c ++ z
blocks_before a b c h k m z =
    ap (λ (x : List ℕ). x ++ four b ++ four c ++ z) (four_of a h) ∙ ap (λ (x : List ℕ). a ++ x ++ four c ++ z) (four_of b k) ∙ ap (λ (x : List ℕ). a ++ b ++ x ++ z) (four_of c m)

-- what holds of every eight numbers holds of a list of eight
pub of_eight : (P : List ℕ → Type 0) → ((a b c d e f g h : ℕ) → P (a ∷ b ∷ c ∷ d ∷ e ∷ f ∷ g ∷ h ∷ [])) → (t : List ℕ) → length t ≡ 8 → P t
of_eight P k [] l = absurd (omega arith)
of_eight P k (a ∷ []) l = absurd (omega arith)
of_eight P k (a ∷ b ∷ []) l = absurd (omega arith)
of_eight P k (a ∷ b ∷ c ∷ []) l = absurd (omega arith)
of_eight P k (a ∷ b ∷ c ∷ d ∷ []) l = absurd (omega arith)
of_eight P k (a ∷ b ∷ c ∷ d ∷ e ∷ []) l = absurd (omega arith)
of_eight P k (a ∷ b ∷ c ∷ d ∷ e ∷ f ∷ []) l = absurd (omega arith)
of_eight P k (a ∷ b ∷ c ∷ d ∷ e ∷ f ∷ g ∷ []) l = absurd (omega arith)
of_eight P k (a ∷ b ∷ c ∷ d ∷ e ∷ f ∷ g ∷ h ∷ []) l = k a b c d e f g h
of_eight P k (a ∷ b ∷ c ∷ d ∷ e ∷ f ∷ g ∷ h ∷ i ∷ t) l = absurd (omega arith)
