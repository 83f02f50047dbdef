-- What stays true of each view where the ledger changes.
use Rattle.std.proofs.Common.{◌≡◌, ◌≢◌, ℕ, ◌+◌, List, [], ◌∷◌, ◌++◌, sym, refl, ap, ◌∙◌, subst, arith, Option, Some, None}
use Rattle.std.specs.List.{AllByRecursion}
use Rattle.turn_book.specs.Histories.{StartsWith, AddsNoneOf, first_or}
use Rattle.turn_book.specs.Rule.{Ledger, Stands, HasNumber, IsNumbered, HasEnded, Keeps, Fits, own_list}
use Rattle.turn_book.specs.declared.view.View.{View}
use Rattle.turn_book.specs.declared.view.Phase.{Phase}
use Rattle.turn_book.specs.declared.view.Phase.TheVariants.{Idle, Waiting, Served, Done, Spent}
use Rattle.turn_book.proofs.Lists.{put, put_here, put_else, each_of, starts_same, starts_more, starts_on, adds_none, adds_more, adds_cut}

module _ {E : Type 0} where
  -- a ticket is drawn by the view id
  abbrev pub draw : Ledger E → ℕ → Ledger E
  draw g id = record g { drawn = g.drawn + 1; by = put g.by g.drawn id }

  -- a turn is passed on
  abbrev pub pass : Ledger E → Ledger E
  pass g = record g { passed = g.passed + 1 }

  -- an entry comes
  abbrev pub write : Ledger E → E → Ledger E
  write g e = record g { history = g.history ++ e ∷ [] }

  -- a seat comes, which is the view new
  abbrev pub seat_more : Ledger E → ℕ → Ledger E
  seat_more g new = record g { made = g.made + 1; owner = put g.owner g.made new; keeper = new }

  -- what was the view other's is the view id's
  abbrev pub merge : Ledger E → ℕ → ℕ → Ledger E
  merge g other id = record g { owner = λ n. put (λ x. x) other id (g.owner n); keeper = put (λ x. x) other id g.keeper }

-- another view is taken in
pub merged : (f : ℕ → ℕ) (other id j n : ℕ) → f n ≡ j → j ≢ other → put (λ x. x) other id (f n) ≡ j
merged f other id j n is apart = put_else (λ x. x) other id (f n) (λ e. apart (sym is ∙ e)) ∙ is

pub taken : (f : ℕ → ℕ) (other id n : ℕ) → f n ≡ other → put (λ x. x) other id (f n) ≡ id
taken f other id n is = ap (put (λ x. x) other id) is ∙ put_here (λ x. x) other id

module _ {E B : Type 0} (names : E → ℕ) (base : B) where
  pub renumber : (g : Ledger E) (id : ℕ) (number : Option ℕ) (old new : Phase) (seen : List E) → number ≢ None
      → IsNumbered names base g id number old seen → IsNumbered names base g id number new seen
  renumber g id None old new seen some_number h = absurd (some_number refl)
  renumber g id (Some n) old new seen some_number h = h

  -- a view in another phase
  pub rephase : (g : Ledger E) (id : ℕ) (v : View E B) (phase : Phase) → v.number ≢ None
      → Stands names base g id v.seen phase → Fits names base g id v → Fits names base g id (record v { phase = phase })
  rephase g id v phase some_number stands f = record {
    seen = f.seen;
    same_base = f.same_base;
    number = renumber g id v.number v.phase phase (own_list v) some_number f.number;
    joined = f.joined;
    ended = f.ended;
    keeps = f.keeps;
    stands = stands;
  }

  -- the first of the joined lists is the own one, and what is seen goes on from it
  pub own_starts : (v : View E B) → AllByRecursion (StartsWith v.seen) v.joined → StartsWith v.seen (own_list v)
  own_starts v joined = go v.joined joined
    where
      go : (lists : List (List E)) → AllByRecursion (StartsWith v.seen) lists → StartsWith v.seen (first_or v.seen lists)
      go [] e = starts_same v.seen
      go (x ∷ xs) e = e.0

  -- draw
  draw_stands : (g : Ledger E) (id j : ℕ) (seen : List E) (phase : Phase) → Stands names base g j seen phase → Stands names base (draw g id) j seen phase
  draw_stands g id j seen Idle h = tt
  draw_stands g id j seen (Waiting t) h = let a = h.1 in (h.0, omega arith, put_else g.by g.drawn id t (λ e. omega arith) ∙ h.2)
  draw_stands g id j seen (Served t) h = let a = h.1 in (h.0, omega arith, put_else g.by g.drawn id t (λ e. omega arith) ∙ h.2, h.3)
  draw_stands g id j seen (Done t) h = let a = h.1 in (h.0, omega arith, put_else g.by g.drawn id t (λ e. omega arith) ∙ h.2, h.3)
  draw_stands g id j seen Spent h = tt

  pub draw_fits : (g : Ledger E) (id j : ℕ) (v : View E B) → Fits names base g j v → Fits names base (draw g id) j v
  draw_fits g id j v f = record {
    seen = f.seen;
    same_base = f.same_base;
    number = draw_number v.number v.phase (own_list v) f.number;
    joined = f.joined;
    ended = f.ended;
    keeps = draw_keeps v.made f.keeps;
    stands = draw_stands g id j v.seen v.phase f.stands;
  }
    where
      draw_number : (number : Option ℕ) (phase : Phase) (seen : List E) → IsNumbered names base g j number phase seen → IsNumbered names base (draw g id) j number phase seen
      draw_number None phase seen h = h
      draw_number (Some n) phase seen h = h

      draw_keeps : (made : Option ℕ) → Keeps names base g j made → Keeps names base (draw g id) j made
      draw_keeps None h = h
      draw_keeps (Some n) h = h

  -- pass: the view me had the turn
  pass_stands : (g : Ledger E) (me j : ℕ) (seen : List E) (phase : Phase) → g.by g.passed ≡ me → j ≢ me
      → Stands names base g j seen phase → Stands names base (pass g) j seen phase
  pass_stands g me j seen Idle turn other h = tt
  pass_stands g me j seen (Waiting t) turn other h = let a = h.0 in let apart : t ≢ g.passed = λ e. other (sym h.2 ∙ (ap g.by e ∙ turn)) in (omega arith, h.1, h.2)
  pass_stands g me j seen (Served t) turn other h = absurd (other (sym h.2 ∙ (ap g.by h.0 ∙ turn)))
  pass_stands g me j seen (Done t) turn other h = absurd (other (sym h.2 ∙ (ap g.by h.0 ∙ turn)))
  pass_stands g me j seen Spent turn other h = tt

  pub pass_fits : (g : Ledger E) (j : ℕ) (v : View E B) → Stands names base (pass g) j v.seen v.phase → Fits names base g j v → Fits names base (pass g) j v
  pass_fits g j v stands f = record {
    seen = f.seen;
    same_base = f.same_base;
    number = pass_number v.number v.phase (own_list v) f.number;
    joined = f.joined;
    ended = f.ended;
    keeps = pass_keeps v.made f.keeps;
    stands = stands;
  }
    where
      pass_number : (number : Option ℕ) (phase : Phase) (seen : List E) → IsNumbered names base g j number phase seen → IsNumbered names base (pass g) j number phase seen
      pass_number None phase seen h = h
      pass_number (Some n) phase seen h = h

      pass_keeps : (made : Option ℕ) → Keeps names base g j made → Keeps names base (pass g) j made
      pass_keeps None h = h
      pass_keeps (Some n) h = h

  pub pass_other : (g : Ledger E) (me j : ℕ) (v : View E B) → g.by g.passed ≡ me → j ≢ me → Fits names base g j v → Fits names base (pass g) j v
  pass_other g me j v turn other f = pass_fits g j v (pass_stands g me j v.seen v.phase turn other f.stands) f

  -- write: the view me has the turn, and the entry names one of its numbers
  write_stands : (g : Ledger E) (e : E) (me j : ℕ) (seen : List E) (phase : Phase) → g.by g.passed ≡ me → j ≢ me
      → Stands names base g j seen phase → Stands names base (write g e) j seen phase
  write_stands g e me j seen Idle turn other h = tt
  write_stands g e me j seen (Waiting t) turn other h = h
  write_stands g e me j seen (Served t) turn other h = absurd (other (sym h.2 ∙ (ap g.by h.0 ∙ turn)))
  write_stands g e me j seen (Done t) turn other h = absurd (other (sym h.2 ∙ (ap g.by h.0 ∙ turn)))
  write_stands g e me j seen Spent turn other h = tt

  write_number : (g : Ledger E) (e : E) (j n : ℕ) (seen : List E) → names e ≢ n → HasNumber names base g j n seen → HasNumber names base (write g e) j n seen
  write_number g e j n seen else h = (h.0, h.1, adds_more names n seen g.history (e ∷ []) (else, tt) h.2)

  write_keeps : (g : Ledger E) (e : E) (j : ℕ) (made : Option ℕ) → Keeps names base g j made → Keeps names base (write g e) j made
  write_keeps g e j None h = h
  write_keeps g e j (Some n) h = h

  pub write_other : (g : Ledger E) (e : E) (me j : ℕ) (v : View E B) → g.by g.passed ≡ me → g.owner (names e) ≡ me → j ≢ me → Fits names base g j v → Fits names base (write g e) j v
  write_other g e me j v turn mine other f = record {
    seen = starts_more g.history v.seen (e ∷ []) f.seen;
    same_base = f.same_base;
    number = numbers v.number v.phase (own_list v) f.number;
    joined = f.joined;
    ended = each_of (HasEnded names base g j v.number v.seen) (HasEnded names base (write g e) j v.number v.seen) v.ended
        (λ x h. (write_number g e j x.number x.seen (else x.number h.0.1) h.0, h.1, h.2)) f.ended;
    keeps = write_keeps g e j v.made f.keeps;
    stands = write_stands g e me j v.seen v.phase turn other f.stands;
  }
    where
      else : (n : ℕ) → g.owner n ≡ j → names e ≢ n
      else n is same = other (sym is ∙ (ap g.owner (sym same) ∙ mine))

      numbers : (number : Option ℕ) (phase : Phase) (seen : List E) → IsNumbered names base g j number phase seen → IsNumbered names base (write g e) j number phase seen
      numbers None phase seen h = h
      numbers (Some n) phase seen h = write_number g e j n seen (else n h.1) h

  -- the writer's own view: what it has seen is the history with the entry
  pub write_own : (g : Ledger E) (e : E) (me t : ℕ) (v : View E B) (seen : List E)
      → v.phase ≡ Served t → v.number ≡ Some (names e) → v.joined ≡ [] → seen ≡ g.history ++ e ∷ [] → Fits names base g me v
      → Fits names base (write g e) me (record v { phase = Done t; seen = seen })
  write_own g e me t v seen served number joined is f = let st = subst (Stands names base g me v.seen) served f.stands in record {
    seen = subst (λ x. StartsWith (g.history ++ e ∷ []) x) (sym is) (starts_same (g.history ++ e ∷ []));
    same_base = f.same_base;
    number = subst (λ k. IsNumbered names base (write g e) me k (Done t) (first_or seen v.joined)) (sym number)
        (subst (λ x. HasNumber names base (write g e) me (names e) x) (sym (ap (first_or seen) joined ∙ is)) (at_number.0, at_number.1, adds_none names (names e) (g.history ++ e ∷ [])));
    joined = subst (AllByRecursion (StartsWith seen)) (sym joined) tt;
    ended = each_of (HasEnded names base g me v.number v.seen) (HasEnded names base (write g e) me v.number seen) v.ended
        (λ x h. (
          write_number g e me x.number x.seen (λ same. h.2 (number ∙ ap Some same)) h.0,
          subst (λ y. StartsWith y x.seen) (sym is) (starts_more g.history x.seen (e ∷ []) (subst (λ y. StartsWith y x.seen) st.3 h.1)),
          h.2,
        )) f.ended;
    keeps = write_keeps g e me v.made f.keeps;
    stands = (st.0, st.1, st.2, is);
  }
    where
      at_number : HasNumber names base g me (names e) (own_list v)
      at_number = subst (λ k. IsNumbered names base g me k v.phase (own_list v)) number f.number

  -- a look at the whole history, in a phase that fits
  pub look_fits : (g : Ledger E) (id : ℕ) (v : View E B) (phase : Phase) (looks : ℕ) (seen : List E)
      → seen ≡ g.history → v.number ≢ None → Stands names base g id seen phase → Fits names base g id v
      → Fits names base g id (record v { phase = phase; seen = seen; looks = looks; joined = [] })
  look_fits g id v phase looks seen is some_number stands f = record {
    seen = subst (λ x. StartsWith g.history x) (sym is) (starts_same g.history);
    same_base = f.same_base;
    number = numbers v.number f.number some_number;
    joined = tt;
    ended = each_of (HasEnded names base g id v.number v.seen) (HasEnded names base g id v.number seen) v.ended
        (λ x h. (h.0, subst (λ y. StartsWith y x.seen) (sym is) (starts_on g.history v.seen x.seen f.seen h.1), h.2)) f.ended;
    keeps = f.keeps;
    stands = stands;
  }
    where
      numbers : (number : Option ℕ) → IsNumbered names base g id number v.phase (own_list v) → number ≢ None → IsNumbered names base g id number phase seen
      numbers None h some_number = absurd (some_number refl)
      numbers (Some n) h some_number = (h.0, h.1, subst (λ x. AddsNoneOf names n x g.history) (sym is) (adds_none names n g.history))

  -- the joined lists are forgotten
  pub learn_fits : (g : Ledger E) (id : ℕ) (v : View E B) → Fits names base g id v → Fits names base g id (record v { joined = [] })
  learn_fits g id v f = record {
    seen = f.seen;
    same_base = f.same_base;
    number = numbers v.number f.number;
    joined = tt;
    ended = f.ended;
    keeps = f.keeps;
    stands = f.stands;
  }
    where
      numbers : (number : Option ℕ) → IsNumbered names base g id number v.phase (own_list v) → IsNumbered names base g id number v.phase v.seen
      numbers None h = h
      numbers (Some n) h = (h.0, h.1, adds_cut names n (own_list v) v.seen g.history (own_starts v f.joined) f.seen h.2)

  -- one more seat
  seat_number : (g : Ledger E) (new j n : ℕ) (seen : List E) → HasNumber names base g j n seen → HasNumber names base (seat_more g new) j n seen
  seat_number g new j n seen h = let a = h.0 in (omega arith, put_else g.owner g.made new n (λ e. omega arith) ∙ h.1, h.2)

  pub seat_fits : (g : Ledger E) (new j : ℕ) (v : View E B) → (v.made ≡ None) → Fits names base g j v → Fits names base (seat_more g new) j v
  seat_fits g new j v none_made f = record {
    seen = f.seen;
    same_base = f.same_base;
    number = numbers v.number v.phase (own_list v) f.number;
    joined = f.joined;
    ended = each_of (HasEnded names base g j v.number v.seen) (HasEnded names base (seat_more g new) j v.number v.seen) v.ended
        (λ x h. (seat_number g new j x.number x.seen h.0, h.1, h.2)) f.ended;
    keeps = subst (Keeps names base (seat_more g new) j) (sym none_made) tt;
    stands = stands v.seen v.phase f.stands;
  }
    where
      numbers : (number : Option ℕ) (phase : Phase) (seen : List E) → IsNumbered names base g j number phase seen → IsNumbered names base (seat_more g new) j number phase seen
      numbers None phase seen h = h
      numbers (Some n) phase seen h = seat_number g new j n seen h

      stands : (seen : List E) (phase : Phase) → Stands names base g j seen phase → Stands names base (seat_more g new) j seen phase
      stands seen Idle h = h
      stands seen (Waiting t) h = h
      stands seen (Served t) h = h
      stands seen (Done t) h = h
      stands seen Spent h = h

  pub merge_other : (g : Ledger E) (other id j : ℕ) (v : View E B) → j ≢ other → Fits names base g j v → Fits names base (merge g other id) j v
  merge_other g other id j v apart f = record {
    seen = f.seen;
    same_base = f.same_base;
    number = numbers v.number v.phase (own_list v) f.number;
    joined = f.joined;
    ended = each_of (HasEnded names base g j v.number v.seen) (HasEnded names base (merge g other id) j v.number v.seen) v.ended
        (λ x h. ((h.0.0, merged g.owner other id j x.number h.0.1 apart, h.0.2), h.1, h.2)) f.ended;
    keeps = keeps v.made f.keeps;
    stands = stands v.seen v.phase f.stands;
  }
    where
      numbers : (number : Option ℕ) (phase : Phase) (seen : List E) → IsNumbered names base g j number phase seen → IsNumbered names base (merge g other id) j number phase seen
      numbers None phase seen h = h
      numbers (Some n) phase seen h = (h.0, merged g.owner other id j n h.1 apart, h.2)

      keeps : (made : Option ℕ) → Keeps names base g j made → Keeps names base (merge g other id) j made
      keeps None h = h
      keeps (Some n) h = (h.0, merged (λ x. x) other id j g.keeper h.1 apart)

      stands : (seen : List E) (phase : Phase) → Stands names base g j seen phase → Stands names base (merge g other id) j seen phase
      stands seen Idle h = h
      stands seen (Waiting t) h = h
      stands seen (Served t) h = h
      stands seen (Done t) h = h
      stands seen Spent h = h
