-- What reading one name gives: its answer and digest, or the fault that comes in their place.
use Rattle.std.specs.Prelude.{◌≡◌, ◌≢◌, ◌⊎◌, ⊤, ℕ, ◌+◌, ◌<◌, ◌≤◌, ◌++◌, Bool, IsSome, List, [], ◌∷◌, Option, None, Some, Result, Ok, Err, length, take}
use Rattle.std.specs.Option.{option_map}
use Rattle.std.specs.String.{string_bytes}
use Rattle.b3_core.specs.Modes.{hash_mode, keyed_mode}
use Rattle.b3_core.specs.Tree.{top}
use Rattle.b3_core.specs.declared.modes.Mode.{Mode}
use Rattle.b3_hash.specs.Derivation.{derived_mode}
use Rattle.b3_hash.specs.Readers.{Reader}
use Rattle.b3_io.specs.declared.fault.RunFault.{RunFault}
use Rattle.b3_io.specs.declared.fault.RunFault.TheVariants.{ReadFault, WriteFault, Memory, BadKey, EndlessInput}
use Rattle.b3_io.specs.declared.output_range.OutputRange.{OutputRange}
use Rattle.b3_io.specs.declared.key.KeyRead.{KeyRead}
use Rattle.b3_io.specs.declared.options.KeyChoice.{KeyChoice}
use Rattle.b3_io.specs.declared.options.KeyChoice.TheVariants.{Plain, Keyed, Derive}
use Rattle.b3_io.specs.declared.options.Limits.{Limits}
use Rattle.b3_io.specs.declared.shelf.NoContent.{NoContent}
use Rattle.b3_io.specs.Contents.{Contents, input_name}
use Rattle.b3_io.specs.Digests.{digest_of}
use Rattle.b3_io.specs.Runs.{Broke, IsEndless, IoState, Went}
use Rattle.b3_io.specs.Scripts.{AgreesWith, Answer, Given, Kind, given_map, nothing}
use Rattle.b3_io.specs.Scripts.Kind.{Hashed, Key}

-- what was found, where the whole content was read
abbrev pub found_if : Given ⊤ → List ℕ → Given (List ℕ)
found_if whole found = given_map (λ _. found) whole

-- how many names were not read
abbrev pub unread_count : Result (Given ⊤) RunFault → ℕ
unread_count (Ok (Ok _)) = 0
unread_count (Ok (Err _)) = 1
unread_count (Err _) = 0

-- a fault that reading a name may give, and why it comes
abbrev pub IsReadingFault : RunFault → Option Contents → Limits → Kind → List ℕ → Type 0
IsReadingFault ReadFault told limits kind name = ⊥
IsReadingFault WriteFault told limits kind name = ⊥
IsReadingFault Memory told limits kind name = ⊤
IsReadingFault BadKey told limits kind name = ⊥
IsReadingFault EndlessInput told limits kind name = IsEndless told limits kind name

-- the output is that of all that was left, where contents are told
pub record IsOutputOf (told : Option Contents) (left : List ℕ) (mode : Mode) (given : Reader) : Type 0 where
  pub content : List ℕ
  pub whole : IsSome told → left ≡ content
  pub output : given ≡ record { node = top mode 0 content; place = 0 }

-- the digest is that of the answer which the name got
pub record IsDigestOf (told : Option Contents) (sure : Bool) (name : List ℕ) (range : OutputRange)
    (digest : Given (List ℕ)) : Type 0 where
  pub answer : Answer
  pub agrees : AgreesWith told sure Hashed name answer
  pub is : digest ≡ digest_of range answer

-- a name is answered
pub record Answered (kind : Kind) (name : List ℕ) (answer : Answer) (before after : IoState) : Type 0 where
  pub agrees : AgreesWith before.told before.sure kind name answer
  pub went : Went before after (answer ∷ []) nothing

-- a fault comes in place of the answer
pub record Unanswered (kind : Kind) (limits : Limits) (name : List ℕ) (before after : IoState)
    (fault : RunFault) : Type 0 where
  pub broke : Broke before after [] nothing fault
  pub cause : IsReadingFault fault before.told limits kind name

-- a name is asked for; `content` is what was read
abbrev pub Asks : Kind → Limits → List ℕ → IoState → IoState → List ℕ → Result (Given ⊤) RunFault → Type 0
Asks kind limits name before after content (Ok whole) = Answered kind name (found_if whole content) before after
Asks kind limits name before after content (Err fault) = Unanswered kind limits name before after fault

-- a name is answered, and the digest is that of its answer
pub record Digested (range : OutputRange) (name : List ℕ) (digest : Given (List ℕ)) (before after : IoState)
    : Type 0 where
  pub answer : Answer
  pub answered : Answered Hashed name answer before after
  pub is : digest ≡ digest_of range answer

-- a name is asked for, and its digest; `digest` is what was found
abbrev pub Hashes : OutputRange → Limits → List ℕ → IoState → IoState → List ℕ → Result (Given ⊤) RunFault → Type 0
Hashes range limits name before after digest (Ok whole) = Digested range name (found_if whole digest) before after
Hashes range limits name before after digest (Err fault) = Unanswered Hashed limits name before after fault

-- the next n bytes of what was left stand at the front of the buffer, and only where nothing else was left they are
-- fewer than it takes, where contents are told; of the reads that were left each gave some of them
pub record IsFilled (told : Option Contents) (left rest buffer : List ℕ) (before after n : ℕ) : Type 0 where
  pub within : n ≤ length buffer
  pub bytes : IsSome told → left ≡ take n buffer ++ rest
  pub end : n < length buffer → IsSome told → rest ≡ []
  pub fewer : after < before
  pub some : n ≡ length buffer → 0 < after
  pub many : n ≡ length buffer → before ≤ after + n

-- where contents are told: the rest of the file that is begun, under each name
abbrev pub only_rest : Option Contents → List ℕ → Option Contents
only_rest told left = option_map (λ _ _. Some left) told

-- the fault of reading that rest
abbrev pub IsFaultOfRest : RunFault → Option Contents → Limits → Kind → List ℕ → Type 0
IsFaultOfRest fault told limits kind left = IsReadingFault fault (only_rest told left) limits kind []

-- whether the rest cannot be read
abbrev pub is_unread : {T : Type 0} → Result (Option T) RunFault → ℕ
is_unread (Ok (Some _)) = 0
is_unread (Ok None) = 1
is_unread (Err _) = 0

-- what was read of a key
abbrev pub key_bytes : KeyRead → List ℕ
key_bytes key = take key.len key.buffer

abbrev pub key_answer : Given KeyRead → Answer
key_answer key = given_map key_bytes key

-- the key was asked for and is 32 bytes, and this is its mode
pub record FoundKey (mode : Mode) (before after : IoState) : Type 0 where
  pub key : List ℕ
  pub answered : Answered Key input_name (Ok key) before after
  pub len : length key ≡ 32
  pub is : mode ≡ keyed_mode key

-- the key was asked for and is not 32 bytes
pub record FoundBadKey (before after : IoState) : Type 0 where
  pub key : List ℕ
  pub answered : Answered Key input_name (Ok key) before after
  pub len : length key ≢ 32

-- the key was asked for and cannot be read
pub record FoundNoKey (before after : IoState) : Type 0 where
  pub why : NoContent
  pub answered : Answered Key input_name (Err why) before after

-- the mode of a choice of key
abbrev pub FoundMode : KeyChoice → Mode → IoState → IoState → Type 0
FoundMode Plain mode before after = (mode ≡ hash_mode) × (after ≡ before)
FoundMode Keyed mode before after = FoundKey mode before after
FoundMode (Derive context) mode before after = (mode ≡ derived_mode (string_bytes context)) × (after ≡ before)

-- why there is none
abbrev pub FoundNoMode : KeyChoice → RunFault → IoState → IoState → Type 0
FoundNoMode Plain fault before after = ⊥
FoundNoMode Keyed fault before after =
    ((fault ≡ ReadFault) × FoundNoKey before after) ⊎ ((fault ≡ BadKey) × FoundBadKey before after)
FoundNoMode (Derive context) fault before after = ⊥

abbrev pub FindsMode : KeyChoice → IoState → IoState → Result Mode RunFault → Type 0
FindsMode key before after (Ok mode) = FoundMode key mode before after
FindsMode key before after (Err fault) = FoundNoMode key fault before after
