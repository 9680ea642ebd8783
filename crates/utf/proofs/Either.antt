-- One of several tests is true: a fact that each of them gives, in this crate and in xml.
use mathlib.Core.Path.{◌≡◌, refl}
use mathlib.Core.Bool.{Bool, true, false, ◌||◌}

pub or2 : (x y : Bool) {P : Type 0} → (x || y) ≡ true → (x ≡ true → P) → (y ≡ true → P) → P
or2 true y e p q = p refl
or2 false y e p q = q e

pub or3 : (x y z : Bool) {P : Type 0} → ((x || y) || z) ≡ true → (x ≡ true → P) → (y ≡ true → P) → (z ≡ true → P) → P
or3 x y z e p q r = or2 (x || y) z e (λ f. or2 x y f p q) r

pub or4 : (x y z w : Bool) {P : Type 0} → (((x || y) || z) || w) ≡ true → (x ≡ true → P) → (y ≡ true → P) → (z ≡ true → P) → (w ≡ true → P) → P
or4 x y z w e p q r s = or2 ((x || y) || z) w e (λ f. or3 x y z f p q r) s

pub or5 : (x y z w u : Bool) {P : Type 0} → ((((x || y) || z) || w) || u) ≡ true
    → (x ≡ true → P) → (y ≡ true → P) → (z ≡ true → P) → (w ≡ true → P) → (u ≡ true → P) → P
or5 x y z w u e p q r s i = or2 (((x || y) || z) || w) u e (λ f. or4 x y z w f p q r s) i

pub or6 : (x y z w u v : Bool) {P : Type 0} → (((((x || y) || z) || w) || u) || v) ≡ true
    → (x ≡ true → P) → (y ≡ true → P) → (z ≡ true → P) → (w ≡ true → P) → (u ≡ true → P) → (v ≡ true → P) → P
or6 x y z w u v e p q r s i j = or3 (((x || y) || z) || w) u v e (λ f. or4 x y z w f p q r s) i j

pub or7 : (x y z w u v o : Bool) {P : Type 0} → ((((((x || y) || z) || w) || u) || v) || o) ≡ true
    → (x ≡ true → P) → (y ≡ true → P) → (z ≡ true → P) → (w ≡ true → P) → (u ≡ true → P) → (v ≡ true → P) → (o ≡ true → P) → P
or7 x y z w u v o e p q r s i j k = or2 (((((x || y) || z) || w) || u) || v) o e (λ f. or6 x y z w u v f p q r s i j) k
