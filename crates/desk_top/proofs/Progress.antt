-- How far a session has come: the rounds that are done, and what is left.
use Rattle.std.proofs.Common.{◌≡◌, ℕ, ◌+◌, ◌<◌, ◌≤◌, Bool, false, List, [], ◌∷◌, ◌++◌, length, get_or, take, drop, Option, Result, Err, refl, sym, ◌∙◌, ap, subst, arith, append_assoc, length-append}
use Rattle.std.specs.Prelude.{All}
use Rattle.std.proofs.lemmas.List.{append-nil, take-append-drop, take-append-le, drop_more, drop_all}
use Rattle.std.proofs.lemmas.List.Elements.{All-nil, All-push}
use Rattle.std.proofs.Math.Seq.{drop-append_seam, take-append_seam, take-append-add}
use Rattle.desk_edge.specs.Sink.{appended}
use Rattle.desk_edge.proofs.SinkLemmas.{appended-appended, appended-nil}
use Rattle.desk_terms.specs.Bench.{counted, logged}
use Rattle.desk_model.specs.Sound.{IsSound}
use Rattle.session_commands.specs.declared.command.Command.{Command}
use Rattle.session_model.specs.Course.{Running, Meaning, Course, round_of}
use Rattle.session_model.specs.Rounds.{rounds, lines_of, calls_in}
use Rattle.session_rounds.proofs.Going.{counted_more, logged_more, logged_none}
use Rattle.desk_top.specs.Early.{Outside, next_of, IsCut, IsHalted}
use Rattle.desk_top.specs.Round.{IsPlayed, IsUnwritten, IsStopped, RoundEnds}
use Rattle.desk_top.specs.Written.{Writes}
use Rattle.tool_script.specs.declared.status.Status.{Status}
use Rattle.tool_script.specs.declared.status.Status as status

abbrev pub Log : Type 0
Log = Option (List (ℕ × Bool))

-- the lines of two lists of rounds, and their computations
lines_joined : {P : Type 0} (a b : List (Course P)) → lines_of (a ++ b) ≡ lines_of a ++ lines_of b
unfolding lines_of
lines_joined [] b = refl
lines_joined (t ∷ a) b = ap (λ (l : List ℕ). t.lines ++ l) (lines_joined a b) ∙ sym (append_assoc t.lines (lines_of a) (lines_of b))

pub calls_joined : {P : Type 0} (a b : List (Course P)) → calls_in (a ++ b) ≡ calls_in a ++ calls_in b
unfolding calls_in
calls_joined [] b = refl
calls_joined (t ∷ a) b = ap (λ (l : List (ℕ × Bool)). t.calls ++ l) (calls_joined a b) ∙ sym (append_assoc t.calls (calls_in a) (calls_in b))

pub lines_one : {P : Type 0} (t : Course P) → lines_of (t ∷ []) ≡ t.lines
unfolding lines_of
lines_one t = append-nil t.lines

calls_one : {P : Type 0} (t : Course P) → calls_in (t ∷ []) ≡ t.calls
unfolding calls_in
calls_one t = append-nil t.calls

-- where a session stands that began at `first`: `rest` is left of its commands
pub record Progress (P : Type 0) (m : Meaning P) (first : Running P) (commands rest : List Command) (state : Running P) (start now : Outside) : Type 0 where
  pub done : List (Course P)
  pub bytes : now.bytes ≡ appended (lines_of done) start.bytes
  pub count : now.count ≡ counted start.count (length (calls_in done))
  pub log : now.log ≡ logged start.log (calls_in done)
  pub whole : rounds m first commands ≡ done ++ rounds m state rest
  pub sounds : All (λ (t : Course P). IsSound m.calc t.next.standing.state) done
  pub names : state.standing.names ≡ first.standing.names
  pub actions : state.standing.actions ≡ first.standing.actions
  pub running : state.standing.stopped ≡ false
  pub sound : IsSound m.calc state.standing.state

-- nothing is done yet
pub progress_none : {P : Type 0} (m : Meaning P) (first : Running P) (commands : List Command) (start : Outside) → first.standing.stopped ≡ false → IsSound m.calc first.standing.state → Progress P m first commands commands first start start
unfolding lines_of calls_in
progress_none {P} m first commands start running sound = record {
  done = [];
  bytes = sym (appended-nil start.bytes);
  count = refl;
  log = logged_none start.log;
  whole = refl;
  sounds = All-nil (λ (t : Course P). IsSound m.calc t.next.standing.state);
  names = refl;
  actions = refl;
  running = running;
  sound = sound;
}

-- a list of rounds that ends early within the round t, after those that are done
module _ {P : Type 0} (turns done later : List (Course P)) (t : Course P) (whole : turns ≡ done ++ (t ∷ later)) where
  next_is : next_of (length done) turns ≡ t ∷ []
  next_is = ap (λ (l : List (Course P)). next_of (length done) l) whole ∙ ap (λ (l : List (Course P)). take 1 l) (drop-append_seam done (t ∷ later))

  done_is : take (length done) turns ≡ done
  done_is = ap (λ (l : List (Course P)). take (length done) l) whole ∙ take-append_seam done (t ∷ later)

  lines_next : lines_of (next_of (length done) turns) ≡ t.lines
  lines_next = ap lines_of next_is ∙ lines_one t

  calls_next : calls_in (next_of (length done) turns) ≡ t.calls
  calls_next = ap calls_in next_is ∙ calls_one t

  calls_with : calls_in (take (length done + 1) turns) ≡ calls_in done ++ t.calls
  calls_with =
      ap (λ (l : List (Course P)). calls_in (take (length done + 1) l)) whole ∙ ap calls_in (take-append-add done (t ∷ later) 1) ∙ calls_joined done (t ∷ []) ∙ ap (λ (l : List (ℕ × Bool)). calls_in done ++ l) (calls_one t)

  bytes_within : (start now new : Option (List ℕ)) (part : ℕ) → now ≡ appended (lines_of done) start → new ≡ appended (take part t.lines) now
      → new ≡ appended (lines_of (take (length done) turns) ++ take part (lines_of (next_of (length done) turns))) start
  bytes_within start now new part come put =
      put ∙ ap (appended (take part t.lines)) come ∙ appended-appended (lines_of done) (take part t.lines) start
      ∙ ap (λ (l : List ℕ). appended (lines_of done ++ take part l) start) (sym lines_next)
      ∙ ap (λ (l : List (Course P)). appended (lines_of l ++ take part (lines_of (next_of (length done) turns))) start) (sym done_is)

  module _ (start now new : Outside) (bytes : now.bytes ≡ appended (lines_of done) start.bytes) (count : now.count ≡ counted start.count (length (calls_in done))) (log : now.log ≡ logged start.log (calls_in done)) where
    pub cut_in : IsUnwritten t now new → IsCut turns start new
    cut_in r = record {
      whole = length done;
      part = r.part;
      short = omega (arith, r.short, ap (λ (l : List ℕ). length l) lines_next);
      bytes = bytes_within start.bytes now.bytes new.bytes r.part bytes r.bytes;
      count = r.count ∙ ap (λ (n : ℕ). counted n (length t.calls)) count ∙ counted_more start.count (length (calls_in done)) (length t.calls)
          ∙ ap (counted start.count) (sym (length-append (calls_in done) t.calls)) ∙ ap (λ (l : List (ℕ × Bool)). counted start.count (length l)) (sym calls_with);
      log = r.log ∙ ap (λ (l : Log). logged l t.calls) log ∙ logged_more start.log (calls_in done) t.calls ∙ ap (logged start.log) (sym calls_with);
    }

    pub halted_in : IsStopped t now new → IsHalted turns start new
    halted_in r = record {
      whole = length done;
      part = r.part;
      within = omega (arith, r.within, ap (λ (l : List ℕ). length l) lines_next);
      begun = r.begun;
      ended = r.ended;
      most = omega (arith, r.most, ap (λ (l : List (ℕ × Bool)). length l) calls_next);
      last = r.last;
      bytes = bytes_within start.bytes now.bytes new.bytes r.part bytes r.bytes;
      count = r.count ∙ ap (λ (n : ℕ). counted n r.begun) count ∙ counted_more start.count (length (calls_in done)) r.begun
          ∙ ap (λ (l : List (Course P)). counted start.count (length (calls_in l) + r.begun)) (sym done_is);
      log = r.log ∙ ap (λ (l : Log). logged l (take r.ended t.calls)) log ∙ logged_more start.log (calls_in done) (take r.ended t.calls)
          ∙ ap (λ (l : List (ℕ × Bool)). logged start.log (calls_in done ++ take r.ended l)) (sym calls_next)
          ∙ ap (λ (l : List (Course P)). logged start.log (calls_in l ++ take r.ended (calls_in (next_of (length done) turns)))) (sym done_is);
    }

-- it halts before its first round
pub halted_before : {P : Type 0} (turns : List (Course P)) (start : Outside) → IsHalted turns start start
unfolding lines_of calls_in
halted_before turns start = record {
  whole = 0;
  part = 0;
  within = omega arith;
  begun = 0;
  ended = 0;
  most = omega arith;
  last = (omega arith, omega arith);
  bytes = sym (appended-nil start.bytes);
  count = refl;
  log = logged_none start.log;
}

-- where there is one round alone
module _ {P : Type 0} (t : Course P) (start new : Outside) where
  pub one_cut : IsUnwritten t start new → IsCut (t ∷ []) start new
  unfolding lines_of calls_in
  one_cut r = cut_in (t ∷ []) [] [] t refl start start new (sym (appended-nil start.bytes)) refl (logged_none start.log) r

  pub one_halted : IsStopped t start new → IsHalted (t ∷ []) start new
  unfolding lines_of calls_in
  one_halted r = halted_in (t ∷ []) [] [] t refl start start new (sym (appended-nil start.bytes)) refl (logged_none start.log) r

-- what is written of whole rounds and a part of the next one is a front of the lines
module _ {P : Type 0} (turns : List (Course P)) (whole part : ℕ) (short : part ≤ length (lines_of (next_of whole turns))) where
  split : turns ≡ take whole turns ++ (next_of whole turns ++ drop 1 (drop whole turns))
  split = sym (ap (λ (l : List (Course P)). take whole turns ++ l) (take-append-drop 1 (drop whole turns)) ∙ take-append-drop whole turns)

  lines_split : lines_of turns ≡ lines_of (take whole turns) ++ (lines_of (next_of whole turns) ++ lines_of (drop 1 (drop whole turns)))
  lines_split =
      ap lines_of split ∙ lines_joined (take whole turns) (next_of whole turns ++ drop 1 (drop whole turns))
      ∙ ap (λ (l : List ℕ). lines_of (take whole turns) ++ l) (lines_joined (next_of whole turns) (drop 1 (drop whole turns)))

  front : take (length (lines_of (take whole turns)) + part) (lines_of turns) ≡ lines_of (take whole turns) ++ take part (lines_of (next_of whole turns))
  front =
      ap (λ (l : List ℕ). take (length (lines_of (take whole turns)) + part) l) lines_split
      ∙ take-append-add (lines_of (take whole turns)) (lines_of (next_of whole turns) ++ lines_of (drop 1 (drop whole turns))) part
      ∙ ap (λ (l : List ℕ). lines_of (take whole turns) ++ l) (take-append-le part (lines_of (next_of whole turns)) (lines_of (drop 1 (drop whole turns))) short)

  pub front_written : (old new : Option (List ℕ)) → new ≡ appended (lines_of (take whole turns) ++ take part (lines_of (next_of whole turns))) old → (n : ℕ) × (new ≡ appended (take n (lines_of turns)) old)
  front_written old new put = (length (lines_of (take whole turns)) + part, put ∙ ap (λ (l : List ℕ). appended l old) (sym front))

-- and so are the computations of whole rounds and a part of the next one
module _ {P : Type 0} (turns : List (Course P)) (whole part : ℕ) (short : part ≤ length (calls_in (next_of whole turns))) where
  calls_split : calls_in turns ≡ calls_in (take whole turns) ++ (calls_in (next_of whole turns) ++ calls_in (drop 1 (drop whole turns)))
  calls_split =
      ap calls_in (split turns whole 0 (omega arith)) ∙ calls_joined (take whole turns) (next_of whole turns ++ drop 1 (drop whole turns))
      ∙ ap (λ (l : List (ℕ × Bool)). calls_in (take whole turns) ++ l) (calls_joined (next_of whole turns) (drop 1 (drop whole turns)))

  pub calls_front : take (length (calls_in (take whole turns)) + part) (calls_in turns) ≡ calls_in (take whole turns) ++ take part (calls_in (next_of whole turns))
  calls_front =
      ap (λ (l : List (ℕ × Bool)). take (length (calls_in (take whole turns)) + part) l) calls_split
      ∙ take-append-add (calls_in (take whole turns)) (calls_in (next_of whole turns) ++ calls_in (drop 1 (drop whole turns))) part
      ∙ ap (λ (l : List (ℕ × Bool)). calls_in (take whole turns) ++ l) (take-append-le part (calls_in (next_of whole turns)) (calls_in (drop 1 (drop whole turns))) short)

  pub calls_long : length (calls_in (take whole turns)) + length (calls_in (next_of whole turns)) ≤ length (calls_in turns)
  calls_long =
      omega (
        arith,
        ap (λ (l : List (ℕ × Bool)). length l) calls_split,
        length-append (calls_in (take whole turns)) (calls_in (next_of whole turns) ++ calls_in (drop 1 (drop whole turns))),
        length-append (calls_in (next_of whole turns)) (calls_in (drop 1 (drop whole turns))),
      )

pub cut_front : {P : Type 0} (turns : List (Course P)) (old new : Outside) → IsCut turns old new → (n : ℕ) × (new.bytes ≡ appended (take n (lines_of turns)) old.bytes)
cut_front turns old new c = front_written turns c.whole c.part (omega (arith, c.short)) old.bytes new.bytes c.bytes

pub halted_front : {P : Type 0} (turns : List (Course P)) (old new : Outside) → IsHalted turns old new → (n : ℕ) × (new.bytes ≡ appended (take n (lines_of turns)) old.bytes)
halted_front turns old new h = front_written turns h.whole h.part h.within old.bytes new.bytes h.bytes

module _ {P : Type 0} (m : Meaning P) (first : Running P) (commands : List Command) (start : Outside) where
  -- the next round is that of the next command
  next_whole : (command : Command) (rest : List Command) (state : Running P) (done : List (Course P)) → rounds m first commands ≡ done ++ rounds m state (command ∷ rest)
      → rounds m first commands ≡ done ++ (round_of m state command ∷ rounds m (round_of m state command).next rest)
  unfolding rounds
  next_whole command rest state done is = is

  -- one command more, and its lines
  pub progress_more : (command : Command) (rest : List Command) (state next : Running P) (now later : Outside) → Progress P m first commands (command ∷ rest) state start now
      → IsPlayed (round_of m state command) now later → next ≡ (round_of m state command).next → next.standing.names ≡ state.standing.names → next.standing.actions ≡ state.standing.actions → next.standing.stopped ≡ false → IsSound m.calc next.standing.state
      → Progress P m first commands rest next start later
  progress_more command rest state next now later p played is names actions running sound =
      let t : Course P = round_of m state command in
      let calls : calls_in (p.done ++ t ∷ []) ≡ calls_in p.done ++ t.calls = calls_joined p.done (t ∷ []) ∙ ap (λ (l : List (ℕ × Bool)). calls_in p.done ++ l) (calls_one t) in
      let lines : lines_of (p.done ++ t ∷ []) ≡ lines_of p.done ++ t.lines = lines_joined p.done (t ∷ []) ∙ ap (λ (l : List ℕ). lines_of p.done ++ l) (lines_one t) in
      record {
        done = p.done ++ t ∷ [];
        bytes = played.bytes ∙ ap (appended t.lines) p.bytes ∙ appended-appended (lines_of p.done) t.lines start.bytes ∙ ap (λ (l : List ℕ). appended l start.bytes) (sym lines);
        count = played.count ∙ ap (λ (n : ℕ). counted n (length t.calls)) p.count ∙ counted_more start.count (length (calls_in p.done)) (length t.calls)
            ∙ ap (counted start.count) (sym (length-append (calls_in p.done) t.calls)) ∙ ap (λ (l : List (ℕ × Bool)). counted start.count (length l)) (sym calls);
        log = played.log ∙ ap (λ (l : Log). logged l t.calls) p.log ∙ logged_more start.log (calls_in p.done) t.calls ∙ ap (logged start.log) (sym calls);
        whole = next_whole command rest state p.done p.whole ∙ sym (append_assoc p.done (t ∷ []) (rounds m t.next rest)) ∙ ap (λ (s : Running P). (p.done ++ t ∷ []) ++ rounds m s rest) (sym is);
        sounds = All-push (λ (u : Course P). IsSound m.calc u.next.standing.state) p.done t p.sounds (subst (λ (s : Running P). IsSound m.calc s.standing.state) is sound);
        names = names ∙ p.names;
        actions = actions ∙ p.actions;
        running = running;
        sound = sound;
      }

  -- it ends early in the next command
  pub progress_cut : (command : Command) (rest : List Command) (state : Running P) (now new : Outside) → Progress P m first commands (command ∷ rest) state start now
      → IsUnwritten (round_of m state command) now new → IsCut (rounds m first commands) start new
  progress_cut command rest state now new p r =
      cut_in (rounds m first commands) p.done (rounds m (round_of m state command).next rest) (round_of m state command) (next_whole command rest state p.done p.whole) start now new p.bytes p.count p.log r

  pub progress_halted : (command : Command) (rest : List Command) (state : Running P) (now new : Outside) → Progress P m first commands (command ∷ rest) state start now
      → IsStopped (round_of m state command) now new → IsHalted (rounds m first commands) start new
  progress_halted command rest state now new p r =
      halted_in (rounds m first commands) p.done (rounds m (round_of m state command).next rest) (round_of m state command) (next_whole command rest state p.done p.whole) start now new p.bytes p.count p.log r

  module _ (command : Command) (rest : List Command) (state : Running P) (now new : Outside) (p : Progress P m first commands (command ∷ rest) state start now) where
    pub ends_written : (s : Status) → RoundEnds {A = Unit {0}} (round_of m state command) (Err s) now new → Writes start.bytes new.bytes (lines_of (rounds m first commands)) s
    ends_written status.TheVariants.WriteFault r = cut_front (rounds m first commands) start new (progress_cut command rest state now new p r)
    ends_written status.TheVariants.NoMemory r = halted_front (rounds m first commands) start new (progress_halted command rest state now new p r)
    ends_written status.TheVariants.Done r = absurd r
    ends_written status.TheVariants.Usage r = absurd r
    ends_written (status.TheVariants.Market section entry why) r = absurd r
    ends_written (status.TheVariants.Script line why) r = absurd r
    ends_written status.TheVariants.ReadFault r = absurd r
    ends_written (status.TheVariants.Absent role) r = absurd r

    pub ends_cut : (s : Status) → RoundEnds {A = Unit {0}} (round_of m state command) (Err s) now new → s ≡ status.TheVariants.WriteFault → IsCut (rounds m first commands) start new
    ends_cut s r is = progress_cut command rest state now new p (subst (λ (x : Status). RoundEnds {A = Unit {0}} (round_of m state command) (Err x) now new) is r)

    pub ends_halted : (s : Status) → RoundEnds {A = Unit {0}} (round_of m state command) (Err s) now new → s ≡ status.TheVariants.NoMemory → IsHalted (rounds m first commands) start new
    ends_halted s r is = progress_halted command rest state now new p (subst (λ (x : Status). RoundEnds {A = Unit {0}} (round_of m state command) (Err x) now new) is r)

  -- all is done
  all_done : (state : Running P) (now : Outside) (p : Progress P m first commands [] state start now) → rounds m first commands ≡ p.done
  unfolding rounds
  all_done state now p = p.whole ∙ append-nil p.done

  pub progress_bytes : (state : Running P) (now : Outside) → Progress P m first commands [] state start now → now.bytes ≡ appended (lines_of (rounds m first commands)) start.bytes
  progress_bytes state now p = p.bytes ∙ ap (λ (l : List (Course P)). appended (lines_of l) start.bytes) (sym (all_done state now p))

  pub progress_count : (state : Running P) (now : Outside) → Progress P m first commands [] state start now → now.count ≡ counted start.count (length (calls_in (rounds m first commands)))
  progress_count state now p = p.count ∙ ap (λ (l : List (Course P)). counted start.count (length (calls_in l))) (sym (all_done state now p))

  pub progress_log : (state : Running P) (now : Outside) → Progress P m first commands [] state start now → now.log ≡ logged start.log (calls_in (rounds m first commands))
  progress_log state now p = p.log ∙ ap (λ (l : List (Course P)). logged start.log (calls_in l)) (sym (all_done state now p))

  pub progress_sounds : (state : Running P) (now : Outside) → Progress P m first commands [] state start now → All (λ (t : Course P). IsSound m.calc t.next.standing.state) (rounds m first commands)
  progress_sounds state now p = subst (λ (l : List (Course P)). All (λ (t : Course P). IsSound m.calc t.next.standing.state) l) (sym (all_done state now p)) p.sounds

  -- at the place of a loop over the commands: one is next, or none is left
  pub progress_next : (i : ℕ) (command : Command) (state : Running P) (now : Outside) → i < length commands → command ≡ get_or commands i command
      → Progress P m first commands (drop i commands) state start now → Progress P m first commands (command ∷ drop (i + 1) commands) state start now
  progress_next i command state now within is p =
      subst (λ (rest : List Command). Progress P m first commands rest state start now) (drop_more commands i command within ∙ ap (λ (c : Command). c ∷ drop (i + 1) commands) (sym is)) p

  pub progress_last : (i : ℕ) (state : Running P) (now : Outside) → length commands ≤ i → Progress P m first commands (drop i commands) state start now → Progress P m first commands [] state start now
  progress_last i state now past p = subst (λ (rest : List Command). Progress P m first commands rest state start now) (drop_all i commands past) p

-- two errors of one answer are one
pub same_status : (r : Result (Unit {0}) Status) (s other : Status) → r ≡ Err s → r ≡ Err other → s ≡ other
same_status r s other is also = cc
