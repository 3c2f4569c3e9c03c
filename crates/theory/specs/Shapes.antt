-- The shapes of rows: the numbers of blocks, columns and coefficients.
--
-- Main definitions
--   BlockShaped c k block         a block of c columns, each of k coefficients
--
-- Main statements
--   map_row-shaped, blank-shaped, mirror_row-shaped   the shape after a change of each polynomial, of a zero block, after the mirror
--   shaped-columns                the numbers of columns of the blocks of a row of one shape
--   entry-column, entry_length    a nonzero entry stands at a column of the row; every entry has the row's number of coefficients
use Rattle.std.specs.Prelude.{◌≡◌, refl, ℕ, zero, suc, ◌<◌, not, List, [], ◌∷◌, ◌++◌, map, reverse, T, replicate, length, take, drop, get_or, pos}
use Rattle.std.proofs.Common.{sym, ◌∙◌, ap, ap₂, subst, zero-lt-suc}
use Rattle.std.proofs.Math.Nat.{suc-le-suc_iff}
use Rattle.std.proofs.Math.ListN.{length-map}
use Rattle.std.proofs.lemmas.List.{length-reverse}
use Rattle.std.proofs.Math.Seq.{length_front}
use Rattle.algebra.specs.Polynomials.{Polynomial, is_zero_of, mirror, length-mirror}
use Rattle.rules.specs.Rows.{Block, Row, map_row, leading_block, entry, blank, mirror_row_of}
use Rattle.lists.specs.Everywhere.{All, all_get_or, append-all, all_take, all_drop, reverse-all, map-keeps}
use Rattle.rules.specs.Stores.{Shaped}

-- ---- shapes

abbrev pub BlockShaped : ℕ → ℕ → Block → Type 0
BlockShaped c k block = (length block ≡ c) × All (λ p. length p ≡ k) block

module _ (f : Polynomial → Polynomial) (k k' : ℕ) (keeps : (p : Polynomial) → length p ≡ k → length (f p) ≡ k') where
  pub map-block_shaped : (c : ℕ) (block : Block) → BlockShaped c k block → BlockShaped c k' (map f block)
  map-block_shaped c block h = (
    length-map block f ∙ h.0,
    map-keeps (λ p. length p ≡ k) (λ p. length p ≡ k') f keeps block h.1,
  )

  pub map_row-shaped : (b c : ℕ) (r : Row) → Shaped b c k r → Shaped b c k' (map_row f r)
  unfolding Shaped map_row
  map_row-shaped b c r h = (
    length-map r.blocks (map f) ∙ h.0,
    map-keeps (BlockShaped c k) (BlockShaped c k') (map f) (map-block_shaped c) r.blocks h.1,
    keeps r.right h.2,
  )

pub blank-shaped : (c k : ℕ) (block : Block) → BlockShaped c k block → BlockShaped c k (blank block)
unfolding blank
blank-shaped c k block h = map-block_shaped (map (λ _. pos 0)) k k (λ p e. length-map p (λ _. pos 0) ∙ e) c block h

pub mirror_row-shaped : (b c k D : ℕ) (r : Row) → Shaped b c k r → Shaped b c k (mirror_row_of D r)
unfolding mirror_row_of Shaped
mirror_row-shaped b c k D r h = map_row-shaped mirror k k (λ p e. length-mirror p ∙ e) b c (record { blocks = first ++ rest; right = r.right })
    (count, members, h.2)
  where
    first : List Block
    first = reverse (take (suc D) r.blocks)

    rest : List Block
    rest = drop (suc D) r.blocks

    count : length (first ++ rest) ≡ b
    count = length_front r.blocks first (suc D) (length-reverse (take (suc D) r.blocks)) ∙ h.0

    members : All (BlockShaped c k) (first ++ rest)
    members = append-all (BlockShaped c k) first rest
        (reverse-all (BlockShaped c k) (take (suc D) r.blocks) (all_take (BlockShaped c k) (suc D) r.blocks h.1))
        (all_drop (BlockShaped c k) (suc D) r.blocks h.1)

pub shaped-columns : (b c k : ℕ) (r : Row) → Shaped b c k r → map {B = ℕ} length r.blocks ≡ replicate b c
unfolding Shaped
shaped-columns b c k r h = go r.blocks h.1 ∙ ap (λ n. replicate n c) h.0
  where
    go : (bs : List Block) → All (λ block. (length block ≡ c) × All (λ p. length p ≡ k) block) bs
        → map {B = ℕ} length bs ≡ replicate (length bs) c
    go [] a = refl
    go (b ∷ bs) a = ap₂ ◌∷◌ a.0.0 (go bs a.1)

-- ---- entries

nonzero-place : (ps : List Polynomial) (c : ℕ) → T (not (is_zero_of (get_or ps c []))) → c < length ps
unfolding is_zero_of
nonzero-place [] c h = absurd h
nonzero-place (p ∷ ps) zero h = zero-lt-suc (length ps)
nonzero-place (p ∷ ps) (suc c) h = suc-le-suc_iff.1 (nonzero-place ps c h)

leading_block-shaped : (b w k : ℕ) (r : Row) → 0 < b → Shaped b w k r → BlockShaped w k (leading_block r)
unfolding leading_block Shaped
leading_block-shaped b w k r n h = all_get_or (BlockShaped w k) r.blocks [] 0 (subst (λ l. 0 < l) (sym h.0) n) h.1

pub entry-column : (b w k : ℕ) (r : Row) (c : ℕ) → 0 < b → Shaped b w k r → T (not (is_zero_of (entry r c))) → c < w
unfolding entry
entry-column b w k r c n h e =
    subst (λ l. c < l) (leading_block-shaped b w k r n h).0 (nonzero-place (leading_block r) c e)

pub entry_length : (b w k : ℕ) (r : Row) (c : ℕ) → 0 < b → Shaped b w k r → c < w → length (entry r c) ≡ k
unfolding entry
entry_length b w k r c n h e = let block = leading_block-shaped b w k r n h in
    all_get_or (λ p. length p ≡ k) (leading_block r) [] c (subst (λ l. c < l) (sym block.0) e) block.1
