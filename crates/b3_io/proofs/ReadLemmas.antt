-- What is read of a file: so far, to its end, and of a name.
use Rattle.std.proofs.Common.{◌≡◌, ◌⊎◌, ℕ, ◌+◌, ◌<◌, ◌≤◌, Bool, false, IsSome, List, [], ◌++◌, length, take, Option, None, Some, Ok, Err, refl, sym, ◌∙◌, ap, subst, inl, inr, append_assoc, length-append, arith}
use Rattle.std.specs.Prelude.{IsSomeAnd}
use Rattle.std.proofs.Math.Seq.{take-append-add}
use Rattle.std.proofs.lemmas.Bool.{cases_lt}
use Rattle.std.proofs.lemmas.List.{append-nil, length-take-le, take-append-le, take_all}
use Rattle.b3_core.specs.Output.{blake3}
use Rattle.b3_core.specs.Tree.{top}
use Rattle.b3_hash.specs.Readers.{Reader}
use Rattle.b3_io.specs.declared.fault.RunFault.{RunFault}
use Rattle.b3_io.specs.declared.fault.RunFault.TheVariants.{ReadFault, WriteFault, Memory, BadKey, EndlessInput}
use Rattle.b3_io.specs.declared.output_range.OutputRange.{OutputRange}
use Rattle.b3_io.specs.declared.options.Limits.{Limits}
use Rattle.b3_io.specs.declared.shelf.NoContent.{NoContent}
use Rattle.b3_io.specs.declared.shelf.NoContent.TheVariants.{Missing, CannotRead}
use Rattle.b3_io.specs.Contents.{Contents, ContentHas, HasContent, LacksContent}
use Rattle.b3_io.specs.Reading.{IsDigestOf, IsFilled, IsOutputOf, IsReadingFault, only_rest}
use Rattle.b3_io.specs.Scripts.{AgreesWith, Kind, answer_of}
use Rattle.b3_io.specs.Scripts.Kind.{Hashed, Listed, Key}

-- ---- the rest of a file

-- the first bytes of the rest are read, by so many reads that gave bytes; so many are left
pub record ReadSoFar (told : Option Contents) (all left content : List ℕ) (turns still : ℕ) : Type 0 where
  pub parts : IsSome told → all ≡ content ++ left
  pub many : turns ≤ still + length content

pub read_none : (told : Option Contents) (all : List ℕ) (turns : ℕ) → ReadSoFar told all all [] turns turns
read_none told all turns = record { parts = λ _. refl; many = omega arith }

-- one more buffer is full
pub read_more : {told : Option Contents} {all left content : List ℕ} {turns still : ℕ} {rest buffer : List ℕ}
    {after n : ℕ}
    → ReadSoFar told all left content turns still → IsFilled told left rest buffer still after n → length buffer ≤ n
    → ReadSoFar told all rest (content ++ take n buffer) turns after
read_more {told} {all} {left} {content} {turns} {still} {rest} {buffer} {after} {n} so_far filled full = record {
  parts = λ is. so_far.parts is ∙ ap (λ bytes. content ++ bytes) (filled.bytes is)
      ∙ sym (append_assoc content (take n buffer) rest);
  many = omega (
    arith,
    length-append content (take n buffer),
    length-take-le n buffer filled.within,
    so_far.many,
    filled.many (omega (arith, full, filled.within)),
  );
}

-- the last buffer has all that was left
pub read_all : {told : Option Contents} {all left content : List ℕ} {turns still : ℕ} {rest buffer : List ℕ}
    {after n : ℕ}
    → ReadSoFar told all left content turns still → IsFilled told left rest buffer still after n → n < length buffer
    → IsSome told → all ≡ content ++ take n buffer
read_all {told} {all} {left} {content} {turns} {still} {rest} {buffer} {after} {n} so_far filled short is =
    so_far.parts is
    ∙ ap (λ bytes. content ++ bytes) (filled.bytes is ∙ ap (λ bytes. take n buffer ++ bytes) (filled.end short is)
    ∙ append-nil (take n buffer))

-- no read is left
pub read_endless : {told : Option Contents} {all left content : List ℕ} {turns still : ℕ}
    → ReadSoFar told all left content turns still → (IsSome told → still ≤ length left)
    → IsSome told → turns ≤ length all
read_endless {told} {all} {left} {content} {turns} {still} so_far endless is =
    omega (
      arith,
      ap (λ (xs : List ℕ). length xs) (so_far.parts is),
      length-append content left,
      endless is,
      so_far.many,
    )

-- so many bytes are there
pub length-read : {told : Option Contents} {all left content : List ℕ} {turns still : ℕ}
    → ReadSoFar told all left content turns still
    → IsSome told → length content ≤ length all
length-read {told} {all} {left} {content} {turns} {still} so_far is =
    omega (arith, ap (λ (xs : List ℕ). length xs) (so_far.parts is), length-append content left)

-- ---- faults

-- a fact of the rest is one of the content of the name
rest_has : (told : Option Contents) (name left : List ℕ) (P : List ℕ → Type 0) → HasContent told name left
    → ContentHas (only_rest told left) [] P → ContentHas told name P
rest_has None name left P has holds = tt
rest_has (Some contents) name left P has holds = subst (λ (found : Option (List ℕ)). IsSomeAnd found P) (sym has) holds

pub rest_fault : (told : Option Contents) (limits : Limits) (kind : Kind) (name left : List ℕ) (fault : RunFault)
    → HasContent told name left
    → IsReadingFault fault (only_rest told left) limits kind [] → IsReadingFault fault told limits kind name
rest_fault told limits kind name left ReadFault has cause = absurd cause
rest_fault told limits kind name left WriteFault has cause = absurd cause
rest_fault told limits kind name left Memory has cause = tt
rest_fault told limits kind name left BadKey has cause = absurd cause
rest_fault told limits Hashed name left EndlessInput has cause = rest_has told name left
    (λ content. limits.turns ≤ length content) has cause
rest_fault told limits Listed name left EndlessInput has cause =
    rest_has told name left (λ content. (limits.turns ≤ length content) ⊎ (limits.largest < length content)) has cause
rest_fault told limits Key name left EndlessInput has cause = absurd cause

-- a fact of the rest, where contents are told
pub rest_where : (told : Option Contents) (left : List ℕ) (P : List ℕ → Type 0) → (IsSome told → P left)
    → ContentHas (only_rest told left) [] P
rest_where None left P holds = tt
rest_where (Some contents) left P holds = holds refl

-- ---- answers

-- what was read to the end is the content of the name
pub agrees_whole : (told : Option Contents) (sure : Bool) (kind : Kind) (name left : List ℕ) (answer : List ℕ)
    → HasContent told name left
    → (IsSome told → answer_of kind (Some left) ≡ Ok answer) → AgreesWith told sure kind name (Ok answer)
agrees_whole None sure kind name left answer has whole = tt
agrees_whole (Some contents) sure kind name left answer has whole =
    inl (sym (whole refl) ∙ ap (answer_of kind) (sym has))

-- a read failed
pub agrees_failed : (told : Option Contents) (sure : Bool) (kind : Kind) (name : List ℕ) → sure ≡ false
    → AgreesWith told sure kind name (Err CannotRead)
agrees_failed None sure kind name failed = tt
agrees_failed (Some contents) sure kind name failed = inr (refl, failed)

answer_of-none : (kind : Kind) → answer_of kind None ≡ Err Missing
answer_of-none Hashed = refl
answer_of-none Listed = refl
answer_of-none Key = refl

-- a name is not there, or the shelf may fail elsewhere too
pub agrees_lacking : (told : Option Contents) (sure : Bool) (kind : Kind) (name : List ℕ) (why : NoContent)
    → LacksContent told sure name why → AgreesWith told sure kind name (Err why)
agrees_lacking None sure kind name why lacks = tt
agrees_lacking (Some contents) sure kind name Missing lacks =
    inl (sym (ap (answer_of kind) lacks ∙ answer_of-none kind))
agrees_lacking (Some contents) sure kind name CannotRead lacks = inr (refl, lacks)

-- the digest of the output of what was left
pub digest_whole : (told : Option Contents) (sure : Bool) (name left : List ℕ) (range : OutputRange) (given : Reader)
    (digest : List ℕ)
    → HasContent told name left → IsOutputOf told left range.mode given
    → ((content : List ℕ) → given ≡ record { node = top range.mode 0 content; place = 0 }
    → digest ≡ blake3 range.mode content range.seek range.length)
    → IsDigestOf told sure name range (Ok digest)
digest_whole told sure name left range given digest has is_output hashed = record {
  answer = Ok is_output.content;
  agrees = agrees_whole told sure Hashed name left is_output.content has (λ is. ap Ok (is_output.whole is));
  is = ap Ok (hashed is_output.content is_output.output);
}

pub digest_none : (told : Option Contents) (sure : Bool) (name : List ℕ) (range : OutputRange) (why : NoContent)
    → AgreesWith told sure Hashed name (Err why)
    → IsDigestOf told sure name range (Err why)
digest_none told sure name range why agrees = record { answer = Err why; agrees = agrees; is = refl }

-- ---- a read after the first bytes of a buffer

-- more bytes than a front has
take-behind : (front back : List ℕ) (m n : ℕ) → length front ≡ m → take (m + n) (front ++ back) ≡ front ++ take n back
take-behind front back m n len = ap (λ k. take (k + n) (front ++ back)) (sym len) ∙ take-append-add front back n

-- what is in the buffer after it
pub take-read : (items buffer rest : List ℕ) (start n : ℕ) → start ≤ length items → n ≤ length buffer
    → take (start + n) (take start items ++ (buffer ++ rest)) ≡ take start items ++ take n buffer
take-read items buffer rest start n within fits =
    take-behind (take start items) (buffer ++ rest) start n (length-take-le start items within)
    ∙ ap (λ back. take start items ++ back) (take-append-le n buffer rest fits)

-- ---- keys

-- the rest of a key is at the front of a buffer for 33 bytes
pub key_filled : {told : Option Contents} {all rest : List ℕ} {before after n : ℕ} (buffer : List ℕ)
    → IsFilled told all rest buffer before after n → length buffer ≡ 33 → IsSome told → take 33 all ≡ take n buffer
key_filled {told} {all} {rest} {before} {after} {n} buffer filled size is =
    elim (cases_lt n 33) [
      | inl short ↦
          let whole : all ≡ take n buffer = filled.bytes is ∙ ap (λ bytes. take n buffer ++ bytes)
          (filled.end (omega (arith, short, size)) is)
          ∙ append-nil (take n buffer) in
          ap (take 33) whole ∙ take_all 33 (take n buffer) (omega (arith, short, length-take-le n buffer filled.within))
      | inr full ↦
          let count : length (take n buffer) ≡ 33 = omega (arith, full, size, filled.within, length-take-le n buffer filled.within) in
          ap (take 33) (filled.bytes is) ∙ take-append-le 33 (take n buffer) rest (omega (arith, count))
          ∙ take_all 33 (take n buffer) (omega (arith, count))
    ]
