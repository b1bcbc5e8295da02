-- The chaining values of the chunks of an input, in a list, and the top of the tree over them.
use Rattle.std.proofs.Common.{◌≡◌, ℕ, zero, suc, ◌+◌, ◌*◌, ◌/◌, ◌<◌, ◌≤◌, inl, inr, List, [], ◌∷◌, length, take, drop, get_or, set}
use Rattle.std.proofs.Common.{sym, ap, ◌∙◌, arith, add-zero}
use Rattle.std.proofs.lemmas.Bool.{cases_eq}
use Rattle.std.proofs.lemmas.List.{take_all, get_or-take, get_or-drop, length-take, length-drop, get_or-set_same}
use Rattle.std.proofs.lemmas.List.{get_or-set_other}
use Rattle.b3_core.specs.Nodes.{chaining}
use Rattle.b3_core.specs.Chunks.{chunk_node}
use Rattle.b3_core.specs.Tree.{top}
use Rattle.b3_core.specs.Lanes.{AreChunkChainings, chunk_chaining}
use Rattle.b3_core.specs.declared.modes.Mode.{Mode}
use Rattle.b3_core.proofs.Subtrees.{top-chunk}
use Rattle.b3_core.proofs.Parts.{part-front, part-back}

-- the first l of them, of the first l chunks
pub each-front : (mode : Mode) (first l : ℕ) (bytes : List ℕ) (chainings : List (List ℕ))
    → AreChunkChainings mode first bytes chainings
    → AreChunkChainings mode first (take (1024 * l) bytes) (take l chainings)
each-front mode first l bytes chainings each j lt =
    let long = length-take l chainings in
    let below : j < l = omega (arith, long) in
    get_or-take l chainings j [] below
    ∙ each j (omega (arith, long))
    ∙ ap (λ xs. chaining (chunk_node mode (first + j) xs)) (sym (part-front 1 j (1024 * l) bytes (omega arith)))

-- the others, of the other chunks
pub each-back : (mode : Mode) (first l : ℕ) (bytes : List ℕ) (chainings : List (List ℕ))
    → AreChunkChainings mode first bytes chainings
    → AreChunkChainings mode (first + l) (drop (1024 * l) bytes) (drop l chainings)
each-back mode first l bytes chainings each j lt =
    let long = length-drop l chainings in
    let number : first + (l + j) ≡ first + l + j = omega arith in
    let chunk = part-back 1 j (l + j) (1024 * l) bytes (omega arith) in
    get_or-drop l chainings j []
    ∙ each (l + j) (omega (arith, long))
    ∙ (λ i. chaining (chunk_node mode (number i) (sym chunk i)))

-- one chunk
pub each-one : (mode : Mode) (first : ℕ) (bytes : List ℕ) (chainings : List (List ℕ))
    → AreChunkChainings mode first bytes chainings → 1 ≤ length chainings → length bytes ≤ 1024
    → get_or chainings 0 [] ≡ chaining (top mode first bytes)
each-one mode first bytes chainings each some short =
    each 0 (omega arith)
    ∙ (λ i. chaining (chunk_node mode (add-zero first i) (take_all 1024 bytes short i)))
    ∙ ap chaining (sym (top-chunk mode first bytes short))

-- full chunks alone
pub each-full : (mode : Mode) (first full n : ℕ) (bytes : List ℕ) (chainings : List (List ℕ))
    → ((j : ℕ) → j < full → get_or chainings j [] ≡ chunk_chaining mode first bytes j)
    → n ≡ full
    → AreChunkChainings mode first bytes (take n chainings)
each-full mode first full n bytes chainings each n_is j lt =
    let below : j < n = omega (arith, length-take n chainings) in
    get_or-take n chainings j [] below ∙ each j (omega arith)

-- full chunks, and a short one at the end
pub each-last : (mode : Mode) (first full n : ℕ) (bytes : List ℕ) (chainings : List (List ℕ)) (last : List ℕ)
    → full < length chainings
    → ((j : ℕ) → j < full → get_or chainings j [] ≡ chunk_chaining mode first bytes j)
    → last ≡ chaining (chunk_node mode (first + full) (drop (1024 * full) bytes))
    → length bytes ≤ 1024 * full + 1024
    → n ≡ full + 1
    → AreChunkChainings mode first bytes (take n (set chainings full last))
each-last mode first full n bytes chainings last room each last_is short n_is j lt =
    let below : j < n = omega (arith, length-take n (set chainings full last)) in
    let rest : length (drop (1024 * full) bytes) ≤ 1024 = omega (arith, length-drop (1024 * full) bytes) in
    let at : get_or (set chainings full last) j [] ≡ chunk_chaining mode first bytes j = elim (cases_eq j full) [
      | inl same ↦
          rw same (get_or-set_same chainings full last [] room ∙ last_is
          ∙ ap (λ xs. chaining (chunk_node mode (first + full) xs))
          (sym (take_all 1024 (drop (1024 * full) bytes) rest)))
      | inr other ↦ get_or-set_other chainings full j last [] other ∙ each j (omega (arith, other))
    ] in
    get_or-take n (set chainings full last) j [] below ∙ at

-- of one full chunk, the first of some lists
pub lone-chunk : (mode : Mode) (first : ℕ) (bytes words : List ℕ) (lists : List (List ℕ)) → take 1 lists ≡ words ∷ []
    → words ≡ chaining (chunk_node mode first (take 1024 bytes)) → length bytes / 1024 ≡ 1
    → (j : ℕ) → 1024 * (j + 1) ≤ length bytes → get_or lists j [] ≡ chunk_chaining mode first bytes j
lone-chunk mode first bytes words lists front words_is one zero within =
    sym (get_or-take 1 lists 0 [] (omega arith))
    ∙ ap (λ l. get_or l 0 []) front ∙ words_is
    ∙ ap (λ n. chaining (chunk_node mode n (take 1024 bytes))) (sym (add-zero first))
lone-chunk mode first bytes words lists front words_is one (suc j) within = absurd (omega arith)

-- some lists among others, which they begin
pub among : (lists eight : List (List ℕ)) (n j : ℕ) → take n eight ≡ lists → j < n → get_or eight j [] ≡ get_or lists j []
among lists eight n j front j_in = sym (get_or-take n eight j [] j_in) ∙ ap (λ l. get_or l j []) front

-- what holds at 0 holds below 1
pub below_one : (P : ℕ → Type 0) → P 0 → (j : ℕ) → j < 1 → P j
below_one P p zero j_in = p
below_one P p (suc j) j_in = absurd (omega arith)
