-- A content that is read at offsets: what is known of a part of it (BLAKE3 (2020), 2.1), and what a hasher stands for
-- between two regions.
use Rattle.std.specs.Prelude.{◌≡◌, ℕ, ◌/◌, ◌%◌, IsSome, List, Option, length, take, drop}
use Rattle.b3_core.specs.Tree.{top}
use Rattle.b3_core.specs.declared.modes.Mode.{Mode}
use Rattle.b3_core.specs.declared.nodes.Node.{Node}
use Rattle.b3_hash.specs.Hashers.{HasherState, StandsFor, length_of, mode_of}
use Rattle.b3_io.specs.Contents.{Contents}
use Rattle.b3_devices.specs.declared.at_offsets.TheConstants.{REGION_LEN}

-- the node is that of so many bytes, which stand at this offset of what is left, where contents are told
pub record IsPartOf (told : Option Contents) (left : List ℕ) (mode : Mode) (offset len : ℕ) (node : Node) : Type 0 where
  pub bytes : List ℕ
  pub len_is : length bytes ≡ len
  pub node_is : node ≡ top mode (offset / 1024) bytes
  pub is : IsSome told → bytes ≡ take len (drop offset left)

-- the hasher stands for a number of regions, with which what is left begins, where contents are told
pub record HasHashed (told : Option Contents) (left : List ℕ) (mode : Mode) (hasher : HasherState) : Type 0 where
  pub before : List ℕ
  pub stands : StandsFor hasher before
  pub mode_is : mode_of hasher ≡ mode
  pub aligned : length_of hasher % REGION_LEN ≡ 0
  pub is : IsSome told → before ≡ take (length before) left
