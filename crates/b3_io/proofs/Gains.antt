-- What sinks gain, text after text.
use Rattle.std.proofs.Common.{◌≡◌, ℕ, List, [], ◌++◌, take, drop, Option, None, Some, Result, Ok, Err, OnOk, OnErr, refl, sym, ◌∙◌, ap, append_assoc}
use Rattle.std.proofs.lemmas.List.{append-nil, take-append-drop}
use Rattle.std.specs.Io.KnownBytes.{Appends, Keeps}
use Rattle.b3_io.specs.Sinks.{GainsBeginning}

-- nothing is gained
pub Appends-nil : (known : Option (List ℕ)) → Appends known known []
Appends-nil None = tt
Appends-nil (Some xs) = sym (append-nil xs)

-- one text is gained, and then another
pub Appends-append : (a b c : Option (List ℕ)) (xs ys : List ℕ) → Appends a b xs → Appends b c ys
    → Appends a c (xs ++ ys)
Appends-append None b c xs ys first second = tt
Appends-append (Some known) None c xs ys first second = absurd first
Appends-append (Some known) (Some more) None xs ys first second = absurd second
Appends-append (Some known) (Some more) (Some all) xs ys first second =
    second ∙ ap (λ bytes. bytes ++ ys) first ∙ append_assoc known xs ys

-- a text is gained, and then the bytes are kept
pub Appends-Keeps : (a b c : Option (List ℕ)) (xs : List ℕ) → Appends a b xs → Keeps b c → Appends a c xs
Appends-Keeps None b c xs first second = tt
Appends-Keeps (Some known) None c xs first second = absurd first
Appends-Keeps (Some known) (Some more) None xs first second = absurd second
Appends-Keeps (Some known) (Some more) (Some all) xs first second = second ∙ first

-- of a text all is gained but the rest
pub record GainsAllBut (before after : Option (List ℕ)) (text rest : List ℕ) : Type 0 where
  pub gained : List ℕ
  pub text_is : text ≡ gained ++ rest
  pub appends : Appends before after gained

-- nothing is gained yet
pub gains_none : (known : Option (List ℕ)) (text : List ℕ) → GainsAllBut known known text text
gains_none known text = record { gained = []; text_is = refl; appends = Appends-nil known }

-- the next n bytes are gained
pub gains_more : (a b c : Option (List ℕ)) (text rest : List ℕ) (n : ℕ) → GainsAllBut a b text rest
    → Appends b c (take n rest)
    → GainsAllBut a c text (drop n rest)
gains_more a b c text rest n so_far next = record {
  gained = so_far.gained ++ take n rest;
  text_is = so_far.text_is ∙ ap (λ bytes. so_far.gained ++ bytes) (sym (take-append-drop n rest))
      ∙ sym (append_assoc so_far.gained (take n rest) (drop n rest));
  appends = Appends-append a b c so_far.gained (take n rest) so_far.appends next;
}

-- all is gained
pub Appends-from_gains : (a b : Option (List ℕ)) (text rest : List ℕ) → rest ≡ [] → GainsAllBut a b text rest
    → Appends a b text
Appends-from_gains a b text rest none so_far =
    let all : so_far.gained ≡ text = sym (so_far.text_is ∙ ap (λ bytes. so_far.gained ++ bytes) none
    ∙ append-nil so_far.gained) in
    rw all at so_far.appends

-- a beginning is gained
pub beginning_from_gains : (a b c : Option (List ℕ)) (text rest : List ℕ) → GainsAllBut a b text rest → Keeps b c
    → GainsBeginning a c text
beginning_from_gains a b c text rest so_far kept = record {
  gained = so_far.gained;
  rest = rest;
  text_is = so_far.text_is;
  appends = Appends-Keeps a b c so_far.gained so_far.appends kept;
}

-- nothing is a beginning
pub GainsBeginning-none : (known : Option (List ℕ)) (text : List ℕ) → GainsBeginning known known text
GainsBeginning-none known text = record { gained = []; rest = text; text_is = refl; appends = Appends-nil known }

-- a whole text, and then a beginning of another
pub GainsBeginning-append : (a b c : Option (List ℕ)) (xs ys : List ℕ) → Appends a b xs → GainsBeginning b c ys
    → GainsBeginning a c (xs ++ ys)
GainsBeginning-append a b c xs ys first second = record {
  gained = xs ++ second.gained;
  rest = second.rest;
  text_is = ap (λ bytes. xs ++ bytes) second.text_is ∙ sym (append_assoc xs second.gained second.rest);
  appends = Appends-append a b c xs second.gained first second.appends;
}

-- a beginning of a text is one of a longer text
pub GainsBeginning-longer : (a b : Option (List ℕ)) (xs ys : List ℕ) → GainsBeginning a b xs
    → GainsBeginning a b (xs ++ ys)
GainsBeginning-longer a b xs ys part = record {
  gained = part.gained;
  rest = part.rest ++ ys;
  text_is = ap (λ bytes. bytes ++ ys) part.text_is ∙ append_assoc part.gained part.rest ys;
  appends = part.appends;
}

-- all of a text is a beginning of it
pub GainsBeginning-all : (a b : Option (List ℕ)) (text : List ℕ) → Appends a b text → GainsBeginning a b text
GainsBeginning-all a b text appends = record
    { gained = text; rest = []; text_is = sym (append-nil text); appends = appends }

-- a write of which all is gained, or a beginning where it fails
pub GainsBeginning-written : {T E : Type 0} (r : Result T E) (a b : Option (List ℕ)) (text : List ℕ)
    → OnOk r (Appends a b text) → OnErr r (GainsBeginning a b text) → GainsBeginning a b text
GainsBeginning-written (Ok _) a b text all part = GainsBeginning-all a b text all
GainsBeginning-written (Err _) a b text all part = part
