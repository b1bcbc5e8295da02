-- What a lane of vectors holds: place by place, after a vector was written, and after a half of G.
use Rattle.std.proofs.Common.{◌≡◌, ℕ, ◌<◌, List, [], ◌∷◌, length, map, get_or, set, refl, sym, ap, ◌∙◌, inl, inr}
use Rattle.std.proofs.Common.{arith, bit_xor, replicate, w32}
use Rattle.std.specs.Int.{rotate_right}
use Rattle.std.specs.List.{range_with_len}
use Rattle.std.specs.Simd.Lanes.{zip2}
use Rattle.std.proofs.Math.ListN.{get_or-map as get_or-of_map}
use Rattle.std.proofs.lemmas.Bool.{cases_eq}
use Rattle.std.proofs.lemmas.List.{map-set, length-map, length-set, get_or-set_same, get_or-set_other, get_or-map}
use Rattle.std.proofs.lemmas.List.{length-replicate, get_or-replicate}
use Rattle.std.proofs.lemmas.Simd.{length-zip2, get_or-zip2}
use Rattle.std.proofs.lemmas.List.FromFn.{get_or-map-range_with_len, length-map-range_with_len}
use Rattle.b3_core.specs.Words.{add32}
use Rattle.b3_core.specs.Compression.{half_g}
use Rattle.b3_core.specs.Lanes.{AreVectors, lane}
use Rattle.b3_core.proofs.Lists.{elements, map-below}

-- place i of a lane
pub lane-at : (j i : ℕ) (v : List (List ℕ)) → get_or (lane j v) i 0 ≡ get_or (get_or v i []) j 0
lane-at j i v = get_or-of_map (λ row. get_or row j 0) v i []

-- a lane, place by place
pub lane-elements : (j n : ℕ) (v : List (List ℕ)) → length v ≡ n
    → lane j v ≡ map (λ i. get_or (get_or v i []) j 0) (range_with_len 0 n)
lane-elements j n v count =
    elements (lane j v) n (length-map v (λ row. get_or row j 0) ∙ count)
    ∙ map-below (λ i. get_or (lane j v) i 0) (λ i. get_or (get_or v i []) j 0) n (λ i lt. lane-at j i v)

-- a lane of some of the vectors
pub lane-places : (j : ℕ) (v : List (List ℕ)) (places : List ℕ)
    → lane j (map (λ i. get_or v i []) places) ≡ map (λ i. get_or (lane j v) i 0) places
lane-places j v [] = refl
lane-places j v (i ∷ places) = λ k. sym (lane-at j i v) k ∷ lane-places j v places k

-- vectors that are given place by place
pub wide-map : (rows : ℕ → List ℕ) (n : ℕ) → ((i : ℕ) → i < n → length (rows i) ≡ 8)
    → AreVectors n (map rows (range_with_len 0 n))
wide-map rows n each = (
  length-map-range_with_len rows 0 n,
  λ i lt. ap length (get_or-map-range_with_len rows 0 n i i [] lt (omega arith)) ∙ each i lt,
)

-- vectors whose lengths are known
pub wide-lengths : (n : ℕ) (v : List (List ℕ)) → map length v ≡ replicate n 8 → AreVectors n v
wide-lengths n v each = (
  sym (length-map v length) ∙ ap length each ∙ length-replicate n 8,
  λ i lt. sym (get_or-of_map length v i []) ∙ ap (λ l. get_or l i 0) each ∙ get_or-replicate n i 8 0 lt,
)

-- a lane after a vector was written
pub lane-set : (j i : ℕ) (v : List (List ℕ)) (row : List ℕ) → lane j (set v i row) ≡ set (lane j v) i (get_or row j 0)
lane-set j i v row = map-set (λ row. get_or row j 0) v i row

-- the vectors stay wide
pub wide-set : (v : List (List ℕ)) (n i : ℕ) (row : List ℕ) → AreVectors n v → length row ≡ 8
    → AreVectors n (set v i row)
wide-set v n i row wide long = (
  length-set v i row ∙ wide.0,
  λ k k_in. elim (cases_eq k i) [
    | inl same ↦ rw same (ap length (get_or-set_same v i row [] (omega (arith, wide.0))) ∙ long)
    | inr other ↦ ap length (get_or-set_other v i k row [] other) ∙ wide.1 k k_in
  ],
)

-- an operator on a vector of each of two lists
pub lane-zip2 : (f : ℕ → ℕ → ℕ) (m n : ℕ) (v w : List (List ℕ)) (p q j : ℕ) → AreVectors m v → AreVectors n w
    → p < m → q < n → j < 8
    → get_or (zip2 f (get_or v p []) (get_or w q [])) j 0 ≡ f (get_or (lane j v) p 0) (get_or (lane j w) q 0)
lane-zip2 f m n v w p q j v_wide w_wide p_in q_in j_in =
    get_or-zip2 f (get_or v p []) (get_or w q []) j 0 0 0 (omega (arith, v_wide.1 p p_in))
    (omega (arith, w_wide.1 q q_in))
    ∙ (λ i. f (sym (lane-at j p v) i) (sym (lane-at j q w) i))

pub length-zipped : (f : ℕ → ℕ → ℕ) (m n : ℕ) (v w : List (List ℕ)) (p q : ℕ) → AreVectors m v → AreVectors n w
    → p < m → q < n → length (zip2 f (get_or v p []) (get_or w q [])) ≡ 8
length-zipped f m n v w p q v_wide w_wide p_in q_in =
    length-zip2 f (get_or v p []) (get_or w q []) (v_wide.1 p p_in ∙ sym (w_wide.1 q q_in)) ∙ v_wide.1 p p_in

-- the vectors after the first statement of a half of G, and after the third
abbrev pub added_three : List (List ℕ) → ℕ → ℕ → List ℕ → List (List ℕ)
added_three v a b x = set v a (zip2 add32 (zip2 add32 (get_or v a []) (get_or v b [])) x)

abbrev pub added_two : List (List ℕ) → ℕ → ℕ → List (List ℕ)
added_two v c d = set v c (zip2 add32 (get_or v c []) (get_or v d []))

pub wide-added_three : (v : List (List ℕ)) (a b : ℕ) (x : List ℕ) → AreVectors 16 v → a < 16 → b < 16 → length x ≡ 8
    → AreVectors 16 (added_three v a b x)
wide-added_three v a b x wide a_in b_in long =
    let inner = length-zipped add32 16 16 v v a b wide wide a_in b_in in
    wide-set v 16 a _ wide (length-zip2 add32 (zip2 add32 (get_or v a []) (get_or v b [])) x (inner ∙ sym long) ∙ inner)

pub wide-added_two : (v : List (List ℕ)) (c d : ℕ) → AreVectors 16 v → c < 16 → d < 16 → AreVectors 16 (added_two v c d)
wide-added_two v c d wide c_in d_in = wide-set v 16 c _ wide (length-zipped add32 16 16 v v c d wide wide c_in d_in)

-- the lanes of these sums
lane-added_three : (v : List (List ℕ)) (a b j : ℕ) (x : List ℕ) → AreVectors 16 v → a < 16 → b < 16 → j < 8
    → length x ≡ 8
    → lane j (added_three v a b x)
    ≡ set (lane j v) a (add32 (add32 (get_or (lane j v) a 0) (get_or (lane j v) b 0)) (get_or x j 0))
lane-added_three v a b j x wide a_in b_in j_in long =
    let sum = zip2 add32 (get_or v a []) (get_or v b []) in
    let inner = length-zipped add32 16 16 v v a b wide wide a_in b_in in
    lane-set j a v (zip2 add32 sum x)
    ∙ ap (set (lane j v) a) (get_or-zip2 add32 sum x j 0 0 0 (omega (arith, inner)) (omega arith)
    ∙ ap (λ n. add32 n (get_or x j 0)) (lane-zip2 add32 16 16 v v a b j wide wide a_in b_in j_in))

lane-added_two : (v : List (List ℕ)) (c d j : ℕ) → AreVectors 16 v → c < 16 → d < 16 → j < 8
    → lane j (added_two v c d) ≡ set (lane j v) c (add32 (get_or (lane j v) c 0) (get_or (lane j v) d 0))
lane-added_two v c d j wide c_in d_in j_in =
    lane-set j c v (zip2 add32 (get_or v c []) (get_or v d []))
    ∙ ap (set (lane j v) c) (lane-zip2 add32 16 16 v v c d j wide wide c_in d_in j_in)

-- the vector y, the exclusive or of vectors p and q turned by r bits
abbrev pub IsTurned : List (List ℕ) → ℕ → ℕ → ℕ → List ℕ → Type 0
IsTurned v p q r y = y ≡ map (λ n. rotate_right w32 n r) (zip2 bit_xor (get_or v p []) (get_or v q []))

pub length-turned : (v : List (List ℕ)) (p q r : ℕ) (y : List ℕ) → AreVectors 16 v → p < 16 → q < 16
    → IsTurned v p q r y → length y ≡ 8
length-turned v p q r y wide p_in q_in y_is =
    ap length y_is ∙ length-map (zip2 bit_xor (get_or v p []) (get_or v q [])) (λ n. rotate_right w32 n r)
    ∙ length-zipped bit_xor 16 16 v v p q wide wide p_in q_in

turned-at : (v : List (List ℕ)) (p q r j : ℕ) (y : List ℕ) → AreVectors 16 v → p < 16 → q < 16 → j < 8
    → IsTurned v p q r y
    → get_or y j 0 ≡ rotate_right w32 (bit_xor (get_or (lane j v) p 0) (get_or (lane j v) q 0)) r
turned-at v p q r j y wide p_in q_in j_in y_is =
    let long = length-zipped bit_xor 16 16 v v p q wide wide p_in q_in in
    ap (λ l. get_or l j 0) y_is
    ∙ get_or-map (λ n. rotate_right w32 n r) (zip2 bit_xor (get_or v p []) (get_or v q [])) j 0 0 (omega (arith, long))
    ∙ ap (λ n. rotate_right w32 n r) (lane-zip2 bit_xor 16 16 v v p q j wide wide p_in q_in j_in)

-- after a half of G the vectors are wide, and each lane has a half of G
pub half_g-lanes : (v : List (List ℕ)) (a b c d r s : ℕ) (x y z : List ℕ)
    → a < 16 → b < 16 → c < 16 → d < 16 → AreVectors 16 v → length x ≡ 8
    → IsTurned (added_three v a b x) d a r y
    → IsTurned (added_two (set (added_three v a b x) d y) c d) b c s z
    → AreVectors 16 (set (added_two (set (added_three v a b x) d y) c d) b z)
    × ((j : ℕ) → j < 8
    → lane j (set (added_two (set (added_three v a b x) d y) c d) b z) ≡ half_g (lane j v) a b c d (get_or x j 0) r s)
unfolding half_g
half_g-lanes v a b c d r s x y z a_in b_in c_in d_in wide long y_is z_is =
    let v1 = added_three v a b x in
    let w1 = wide-added_three v a b x wide a_in b_in long in
    let v2 = set v1 d y in
    let w2 = wide-set v1 16 d y w1 (length-turned v1 d a r y w1 d_in a_in y_is) in
    let v3 = added_two v2 c d in
    let w3 = wide-added_two v2 c d w2 c_in d_in in
    let turn : ℕ → ℕ → ℕ → List ℕ → List ℕ =
    λ p q k w. set w p (rotate_right w32 (bit_xor (get_or w p 0) (get_or w q 0)) k) in
    let sum : List ℕ → List ℕ = λ w. set w c (add32 (get_or w c 0) (get_or w d 0)) in (
      wide-set v3 16 b z w3 (length-turned v3 b c s z w3 b_in c_in z_is),
      λ j j_in.
          let e1 = lane-added_three v a b j x wide a_in b_in j_in long in
          let e2 = lane-set j d v1 y ∙ ap (set (lane j v1) d) (turned-at v1 d a r j y w1 d_in a_in j_in y_is) in
          let e3 = lane-added_two v2 c d j w2 c_in d_in j_in in
          let e4 = lane-set j b v3 z ∙ ap (set (lane j v3) b) (turned-at v3 b c s j z w3 b_in c_in j_in z_is) in
          e4 ∙ ap (turn b c s) (e3 ∙ ap sum (e2 ∙ ap (turn d a r) e1)),
    )
