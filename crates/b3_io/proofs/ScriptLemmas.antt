-- Scripts one after the other, and the reports of their answers.
use Rattle.std.proofs.Common.{◌≡◌, ℕ, ◌+◌, Bool, List, [], ◌∷◌, ◌++◌, Option, Ok, Err, refl, sym, ◌∙◌, ap, subst, append_assoc, add_assoc, add-zero, zero-add}
use Rattle.std.proofs.Math.Path.{fun_ext}
use Rattle.std.proofs.lemmas.List.{append-nil}
use Rattle.b3_io.specs.Contents.{Contents}
use Rattle.b3_io.specs.declared.fault.RunFault.{RunFault}
use Rattle.b3_io.specs.declared.tally.Tally.{Tally}
use Rattle.b3_io.specs.Scripts.{Answer, Kind, Report, Script, AnswersFirst, AsksNext, FailsNext, IsComplete, followed_by, in_turn, joined, nothing, report, then_counted, unread}
use Rattle.b3_io.specs.Scripts.Script.{Done, Fail, Say, Ask}
use Rattle.b3_io.specs.Tallies.{no_tally, tally_sum}

-- ---- scripts

-- a script, and then nothing
pub followed_by-Done : (s : Script) → followed_by s Done ≡ s
followed_by-Done Done = refl
followed_by-Done (Fail fault) = refl
followed_by-Done (Say p s) = ap (Say p) (followed_by-Done s)
followed_by-Done (Ask kind name next) = ap (Ask kind name) (fun_ext (λ answer. followed_by-Done (next answer)))

-- three scripts, one after the other
pub followed_by-followed_by : (s t u : Script) → followed_by (followed_by s t) u ≡ followed_by s (followed_by t u)
followed_by-followed_by Done t u = refl
followed_by-followed_by (Fail fault) t u = refl
followed_by-followed_by (Say p s) t u = ap (Say p) (followed_by-followed_by s t u)
followed_by-followed_by (Ask kind name next) t u =
    ap (Ask kind name) (fun_ext (λ answer. followed_by-followed_by (next answer) t u))

-- two lists of scripts
pub in_turn-append : (xs ys : List Script) → in_turn (xs ++ ys) ≡ followed_by (in_turn xs) (in_turn ys)
in_turn-append [] ys = refl
in_turn-append (x ∷ xs) ys =
    ap (followed_by x) (in_turn-append xs ys) ∙ sym (followed_by-followed_by x (in_turn xs) (in_turn ys))

-- a list of scripts, and one more
pub in_turn-more : (xs : List Script) (s : Script) → in_turn (xs ++ s ∷ []) ≡ followed_by (in_turn xs) s
in_turn-more xs s = in_turn-append xs (s ∷ []) ∙ ap (followed_by (in_turn xs)) (followed_by-Done s)

-- a script that depends on nothing counted
pub followed_by-counted : (s t : Script) (tally : Tally) → followed_by s t ≡ then_counted s tally (λ _. t)
followed_by-counted Done t tally = refl
followed_by-counted (Fail fault) t tally = refl
followed_by-counted (Say p s) t tally = ap (Say p) (followed_by-counted s t (tally_sum tally p.tally))
followed_by-counted (Ask kind name next) t tally =
    ap (Ask kind name) (fun_ext (λ answer. followed_by-counted (next answer) t tally))

-- ---- reports

-- a report, and then nothing
pub joined-nothing : (p : Report) → joined p nothing ≡ p
joined-nothing p = simp (append-nil, add-zero)

-- nothing, and then a report
pub nothing-joined : (p : Report) → joined nothing p ≡ p
nothing-joined p = simp (zero-add)

-- three reports, one after the other
pub joined-joined : (p q r : Report) → joined (joined p q) r ≡ joined p (joined q r)
joined-joined p q r = simp (append_assoc, add_assoc)

-- three tallies
pub tally_sum-tally_sum : (a b c : Tally) → tally_sum (tally_sum a b) c ≡ tally_sum a (tally_sum b c)
tally_sum-tally_sum a b c = simp (add_assoc)

pub tally_sum-none : (a : Tally) → tally_sum a no_tally ≡ a
tally_sum-none a = simp (add-zero)

pub none-tally_sum : (a : Tally) → tally_sum no_tally a ≡ a
none-tally_sum a = simp (zero-add)

-- the answers that cannot be read, in two parts
pub unread-append : (xs ys : List Answer) → unread (xs ++ ys) ≡ unread xs + unread ys
unread-append [] ys = sym (zero-add (unread ys))
unread-append (Err why ∷ xs) ys = ap (λ n. 1 + n) (unread-append xs ys) ∙ sym (add_assoc 1 (unread xs) (unread ys))
unread-append (Ok _ ∷ xs) ys = unread-append xs ys

-- ---- all answers to one script, and then answers to the next

-- what follows a script over these answers, where `tally` was counted before
abbrev pub next_of : Script → Tally → (Tally → Script) → List Answer → Script
next_of s tally next xs = next (tally_sum tally (report s xs).tally)

-- one more is said before
next-said : (s : Script) (tally : Tally) (p : Report) (next : Tally → Script) (xs : List Answer)
    → next_of s (tally_sum tally p.tally) next xs ≡ next_of (Say p s) tally next xs
next-said s tally p next xs = ap next (tally_sum-tally_sum tally p.tally (report s xs).tally)

next-none : (tally : Tally) (next : Tally → Script) → next tally ≡ next_of Done tally next []
next-none tally next = ap next (sym (tally_sum-none tally))

pub AnswersFirst-append : (told : Option Contents) (sure : Bool) (s : Script) (tally : Tally) (next : Tally → Script)
    (xs ys : List Answer)
    → AnswersFirst told sure s xs → IsComplete s xs → AnswersFirst told sure (next_of s tally next xs) ys
    → AnswersFirst told sure (then_counted s tally next) (xs ++ ys)
AnswersFirst-append told sure Done tally next [] ys first whole second =
    subst (λ (t : Script). AnswersFirst told sure t ys) (sym (next-none tally next)) second
AnswersFirst-append told sure Done tally next (x ∷ xs) ys first whole second = absurd first
AnswersFirst-append told sure (Fail fault) tally next xs ys first whole second = absurd whole
AnswersFirst-append told sure (Say p s) tally next xs ys first whole second =
    AnswersFirst-append told sure s (tally_sum tally p.tally) next xs ys first whole
    (subst (λ (t : Script). AnswersFirst told sure t ys) (sym (next-said s tally p next xs)) second)
AnswersFirst-append told sure (Ask kind name asks) tally next [] ys first whole second = absurd whole
AnswersFirst-append told sure (Ask kind name asks) tally next (x ∷ xs) ys first whole second =
    (first.0, AnswersFirst-append told sure (asks x) tally next xs ys first.1 whole second)

pub IsComplete-append : (told : Option Contents) (sure : Bool) (s : Script) (tally : Tally) (next : Tally → Script)
    (xs ys : List Answer)
    → AnswersFirst told sure s xs → IsComplete s xs → IsComplete (next_of s tally next xs) ys
    → IsComplete (then_counted s tally next) (xs ++ ys)
IsComplete-append told sure Done tally next [] ys first whole second =
    subst (λ (t : Script). IsComplete t ys) (sym (next-none tally next)) second
IsComplete-append told sure Done tally next (x ∷ xs) ys first whole second = absurd first
IsComplete-append told sure (Fail fault) tally next xs ys first whole second = absurd whole
IsComplete-append told sure (Say p s) tally next xs ys first whole second =
    IsComplete-append told sure s (tally_sum tally p.tally) next xs ys first whole
    (subst (λ (t : Script). IsComplete t ys) (sym (next-said s tally p next xs)) second)
IsComplete-append told sure (Ask kind name asks) tally next [] ys first whole second = absurd whole
IsComplete-append told sure (Ask kind name asks) tally next (x ∷ xs) ys first whole second =
    IsComplete-append told sure (asks x) tally next xs ys first.1 whole second

pub report-append : (told : Option Contents) (sure : Bool) (s : Script) (tally : Tally) (next : Tally → Script)
    (xs ys : List Answer)
    → AnswersFirst told sure s xs → IsComplete s xs
    → report (then_counted s tally next) (xs ++ ys) ≡ joined (report s xs) (report (next_of s tally next xs) ys)
report-append told sure Done tally next [] ys first whole =
    ap (λ (t : Script). report t ys) (next-none tally next)
    ∙ sym (nothing-joined (report (next_of Done tally next []) ys))
report-append told sure Done tally next (x ∷ xs) ys first whole = absurd first
report-append told sure (Fail fault) tally next xs ys first whole = absurd whole
report-append told sure (Say p s) tally next xs ys first whole =
    ap (joined p) (report-append told sure s (tally_sum tally p.tally) next xs ys first whole)
    ∙ ap (λ (t : Script). joined p (joined (report s xs) (report t ys))) (next-said s tally p next xs)
    ∙ sym (joined-joined p (report s xs) (report (next_of (Say p s) tally next xs) ys))
report-append told sure (Ask kind name asks) tally next [] ys first whole = absurd whole
report-append told sure (Ask kind name asks) tally next (x ∷ xs) ys first whole =
    report-append told sure (asks x) tally next xs ys first.1 whole

pub AsksNext-append : (told : Option Contents) (sure : Bool) (s : Script) (tally : Tally) (next : Tally → Script)
    (xs ys : List Answer)
    (P : Kind → List ℕ → Type 0) → AnswersFirst told sure s xs → IsComplete s xs
    → AsksNext (next_of s tally next xs) ys P
    → AsksNext (then_counted s tally next) (xs ++ ys) P
AsksNext-append told sure Done tally next [] ys P first whole second =
    subst (λ (t : Script). AsksNext t ys P) (sym (next-none tally next)) second
AsksNext-append told sure Done tally next (x ∷ xs) ys P first whole second = absurd first
AsksNext-append told sure (Fail fault) tally next xs ys P first whole second = absurd whole
AsksNext-append told sure (Say p s) tally next xs ys P first whole second =
    AsksNext-append told sure s (tally_sum tally p.tally) next xs ys P first whole
    (subst (λ (t : Script). AsksNext t ys P) (sym (next-said s tally p next xs)) second)
AsksNext-append told sure (Ask kind name asks) tally next [] ys P first whole second = absurd whole
AsksNext-append told sure (Ask kind name asks) tally next (x ∷ xs) ys P first whole second =
    AsksNext-append told sure (asks x) tally next xs ys P first.1 whole second

pub FailsNext-append : (told : Option Contents) (sure : Bool) (s : Script) (tally : Tally) (next : Tally → Script)
    (xs ys : List Answer)
    (fault : RunFault) → AnswersFirst told sure s xs → IsComplete s xs → FailsNext (next_of s tally next xs) ys fault
    → FailsNext (then_counted s tally next) (xs ++ ys) fault
FailsNext-append told sure Done tally next [] ys fault first whole second =
    subst (λ (t : Script). FailsNext t ys fault) (sym (next-none tally next)) second
FailsNext-append told sure Done tally next (x ∷ xs) ys fault first whole second = absurd first
FailsNext-append told sure (Fail own) tally next xs ys fault first whole second = absurd whole
FailsNext-append told sure (Say p s) tally next xs ys fault first whole second =
    FailsNext-append told sure s (tally_sum tally p.tally) next xs ys fault first whole
    (subst (λ (t : Script). FailsNext t ys fault) (sym (next-said s tally p next xs)) second)
FailsNext-append told sure (Ask kind name asks) tally next [] ys fault first whole second = absurd whole
FailsNext-append told sure (Ask kind name asks) tally next (x ∷ xs) ys fault first whole second =
    FailsNext-append told sure (asks x) tally next xs ys fault first.1 whole second

-- ---- some answers to a script, where more follows

-- no answers are answers to what is asked first
pub AnswersFirst-none : (told : Option Contents) (sure : Bool) (s : Script) → AnswersFirst told sure s []
AnswersFirst-none told sure Done = tt
AnswersFirst-none told sure (Fail fault) = tt
AnswersFirst-none told sure (Say p s) = AnswersFirst-none told sure s
AnswersFirst-none told sure (Ask kind name next) = tt

pub AnswersFirst-longer : (told : Option Contents) (sure : Bool) (s : Script) (tally : Tally) (next : Tally → Script)
    (xs : List Answer)
    → AnswersFirst told sure s xs → AnswersFirst told sure (then_counted s tally next) xs
AnswersFirst-longer told sure Done tally next [] first = AnswersFirst-none told sure (next tally)
AnswersFirst-longer told sure Done tally next (x ∷ xs) first = absurd first
AnswersFirst-longer told sure (Fail fault) tally next xs first = first
AnswersFirst-longer told sure (Say p s) tally next xs first =
    AnswersFirst-longer told sure s (tally_sum tally p.tally) next xs first
AnswersFirst-longer told sure (Ask kind name asks) tally next [] first = tt
AnswersFirst-longer told sure (Ask kind name asks) tally next (x ∷ xs) first =
    (first.0, AnswersFirst-longer told sure (asks x) tally next xs first.1)

-- the report so far is a beginning of what is reported
pub report-longer : (told : Option Contents) (sure : Bool) (s : Script) (tally : Tally) (next : Tally → Script)
    (xs : List Answer)
    → AnswersFirst told sure s xs → (more : Report)
    × (report (then_counted s tally next) xs ≡ joined (report s xs) more)
report-longer told sure Done tally next [] first
    = (report (next tally) [], sym (nothing-joined (report (next tally) [])))
report-longer told sure Done tally next (x ∷ xs) first = absurd first
report-longer told sure (Fail fault) tally next xs first = (nothing, sym (nothing-joined nothing))
report-longer told sure (Say p s) tally next xs first =
    let more = report-longer told sure s (tally_sum tally p.tally) next xs first in
    (more.0, ap (joined p) more.1 ∙ sym (joined-joined p (report s xs) more.0))
report-longer told sure (Ask kind name asks) tally next [] first = (nothing, sym (nothing-joined nothing))
report-longer told sure (Ask kind name asks) tally next (x ∷ xs) first =
    report-longer told sure (asks x) tally next xs first.1

-- what a script asks next, or fails by, it asks or fails by with what follows
pub AsksNext-longer : (s : Script) (tally : Tally) (next : Tally → Script) (xs : List Answer)
    (P : Kind → List ℕ → Type 0)
    → AsksNext s xs P → AsksNext (then_counted s tally next) xs P
AsksNext-longer Done tally next xs P asks = absurd asks
AsksNext-longer (Fail fault) tally next xs P asks = absurd asks
AsksNext-longer (Say p s) tally next xs P asks = AsksNext-longer s (tally_sum tally p.tally) next xs P asks
AsksNext-longer (Ask kind name then) tally next [] P asks = asks
AsksNext-longer (Ask kind name then) tally next (x ∷ xs) P asks = AsksNext-longer (then x) tally next xs P asks

pub FailsNext-longer : (s : Script) (tally : Tally) (next : Tally → Script) (xs : List Answer) (fault : RunFault)
    → FailsNext s xs fault → FailsNext (then_counted s tally next) xs fault
FailsNext-longer Done tally next xs fault fails = absurd fails
FailsNext-longer (Fail own) tally next xs fault fails = fails
FailsNext-longer (Say p s) tally next xs fault fails = FailsNext-longer s (tally_sum tally p.tally) next xs fault fails
FailsNext-longer (Ask kind name then) tally next [] fault fails = absurd fails
FailsNext-longer (Ask kind name then) tally next (x ∷ xs) fault fails = FailsNext-longer (then x) tally next xs fault
    fails
