-- Programs that break the rules T6 to T10 first.
use Rattle.std.specs.Prelude.{refl, pos, [], ◌∷◌, Some, None}
use Rattle.sync_base.specs.declared.stops.Rule.TheVariants as rules
use Rattle.sync_base.specs.declared.strategies.OpMode.TheVariants as modes
use Rattle.sync_base.specs.declared.strategies.Strategy.TheVariants as strategies
use Rattle.sync_terms.specs.Trees as tree
use Rattle.sync_terms.specs.Trees.{replaced, replaced_in, tree_size, formula_size}
use Rattle.sync_machine.specs.Machines as acts
use Rattle.sync_machine.specs.Machines.{MachineTree}
use Rattle.sync_thread.specs.declared.operands.Calc.TheVariants as calc
use Rattle.sync_thread.specs.declared.operands.Opd.TheVariants as opd
use Rattle.sync_thread.specs.declared.operands.Rel.TheVariants as rel
use Rattle.sync_thread.specs.declared.operands.WordOp.TheVariants as op
use Rattle.sync_thread.specs.Control as c
use Rattle.sync_thread.specs.Programs as p
use Rattle.sync_thread.specs.Programs.{ProgramTree}
use Rattle.sync_rules.specs.Locality.{names_only, form_names_only}
use Rattle.sync_rules.specs.Obligations.{names, form_names}
use Rattle.sync_rules.specs.Slots.{needs, started_at, updated_to, act_slot}
use Rattle.sync_kernel_facts.specs.Facts.{facts_size}
use Rattle.sync_typing.specs.Laws.{IsBroken}

-- ---- line 11 breaks T6

--   version 1;
--   machine Q { field c: variable; field d: variable;
--   init b() { init c = 0; init d = 0; }
--   transition set(v) { update c = v; } }
--   program {
--   word w[1] = 0 { holds c (value); }
--   start b() () -> (tc, td) {
--   seal w[0] () [tc];
--   move td -> tok; give a (); }
--   thread a () { tok: d (0); } ends () { } {
--   x = 1; loop () { fact x = 2; } from () { break (); } after () { }
--   end (); }
--   }

t6_machine : MachineTree
t6_machine =
    record {
      name = 0;
      fields = (record { name = 1; strategy = strategies.Variable; line = 2 }
          ∷ record { name = 3; strategy = strategies.Variable; line = 2 } ∷ []);
      ops = (record {
        name = 4;
        mode = modes.Init;
        params = ([]);
        steps = (record { act = acts.Init 0 (tree.Lit (pos 0)); line = 3 }
            ∷ record { act = acts.Init 1 (tree.Lit (pos 0)); line = 3 } ∷ []);
        line = 3;
      }
          ∷ record {
            name = 5;
            mode = modes.Transition;
            params = (88 ∷ []);
            steps = (record { act = acts.Update 0 (tree.Name 88); line = 4 } ∷ []);
            line = 4;
          } ∷ []);
      invariants = ([]);
    }

t6_program : ProgramTree
t6_program =
    record {
      decls =
          (p.Word (record {
            name = 7;
            len = 1;
            init = 0;
            names = ([]);
            clauses = (record {
              shape = record { field = (Some 0); key = None; value = (Some (tree.Name 32)) };
              guard = None;
              line = 6;
            } ∷ []);
            fact = None;
            line = 6;
          }) ∷ []);
      start = Some
          (record {
            form =
                (record {
                  op = 0;
                  args = ([]);
                  tokens = ([]);
                  given = (8 ∷ 9 ∷ []);
                  label = None;
                  scripts = ([]);
                  line = 7;
                });
            steps = (record {
              what = p.Seal 7 0
                  (record { args = ([]); tokens = (Some (record { name = 8; at = None }) ∷ []); scripts = ([]) });
              line = 8;
            }
                ∷ record { what = p.Move (record { name = 9; at = None }) 10; line = 9 }
                ∷ record { what = p.Give 11 ([]) ([]); line = 9 } ∷ []);
            line = 7;
          });
      threads = (record {
        name = 11;
        takes = (record {
          names = ([]);
          lines = (record {
            name = 10;
            shape = record { field = (Some 1); key = None; value = (Some (tree.Lit (pos 0))) };
            line = 10;
          } ∷ []);
          facts = ([]);
          line = 10;
        });
        ends = (record { names = ([]); lines = ([]); facts = ([]); line = 10 });
        body = (c.Do (p.Set 12 (calc.Plain (opd.Number 1)) None) 11
            (c.Loop (record {
              names = ([]);
              lines = ([]);
              facts = (record { form = (tree.Eq (tree.Name 112) (tree.Lit (pos 2))); label = None; line = 11 } ∷ []);
              line = 11;
            }) (record { args = ([]); scripts = ([]) }) 11
            (c.Break (record { args = ([]); scripts = ([]) }) 11 (c.Brace 11))
            (Some (record { names = ([]); lines = ([]); facts = ([]); line = 11 }))
            (c.End (record { args = ([]); scripts = ([]) }) 12 (c.Brace 12))));
        line = 10;
      } ∷ []);
      last = None;
    }

pub breaks_t6 : IsBroken rules.T6
unfolding t6_machine t6_program replaced replaced_in tree_size formula_size names_only form_names_only names form_names needs started_at updated_to act_slot facts_size
breaks_t6 =
    record { machine = t6_machine; program = t6_program; line = 11; breaks = refl }

-- ---- line 7 breaks T7

--   version 1;
--   machine Z { init begin() { } }
--   program {
--   cell c[2] = 0;
--   start begin() () -> () { move c[0] -> p; give a (); }
--   thread a () { p: perm [0 => 0]; } ends () { } {
--   write c[1] = 5 with p;
--   end ();
--   }
--   }

t7_machine : MachineTree
t7_machine =
    record {
      name = 0;
      fields = ([]);
      ops = (record { name = 1; mode = modes.Init; params = ([]); steps = ([]); line = 2 } ∷ []);
      invariants = ([]);
    }

t7_program : ProgramTree
t7_program =
    record {
      decls = (p.Cell (record { name = 2; len = 2; init = 0; line = 4 }) ∷ []);
      start = Some
          (record {
            form =
                (record { op = 0; args = ([]); tokens = ([]); given = ([]); label = None; scripts = ([]); line = 5 });
            steps = (record { what = p.Move (record { name = 2; at = (Some 0) }) 3; line = 5 }
                ∷ record { what = p.Give 4 ([]) ([]); line = 5 } ∷ []);
            line = 5;
          });
      threads = (record {
        name = 4;
        takes = (record {
          names = ([]);
          lines = (record {
            name = 3;
            shape = record { field = None; key = (Some (tree.Lit (pos 0))); value = (Some (tree.Lit (pos 0))) };
            line = 6;
          }
              ∷ []);
          facts = ([]);
          line = 6;
        });
        ends = (record { names = ([]); lines = ([]); facts = ([]); line = 6 });
        body = (c.On (p.Write 2 (record { operand = (opd.Number 1); scripts = ([]) }) (opd.Number 5) 3 ([])) 7
            (c.End (record { args = ([]); scripts = ([]) }) 8 (c.Brace 9)));
        line = 6;
      } ∷ []);
      last = None;
    }

pub breaks_t7 : IsBroken rules.T7
unfolding t7_machine t7_program replaced replaced_in tree_size formula_size names_only form_names_only names form_names needs started_at updated_to act_slot facts_size
breaks_t7 =
    record { machine = t7_machine; program = t7_program; line = 7; breaks = refl }

-- ---- line 13 breaks T8

--   version 1;
--   machine Q { field c: variable; field d: variable;
--   init b() { init c = 0; init d = 0; }
--   transition set(v) { update c = v; } }
--   program {
--   word w[2] = 0 { }
--   start b() () -> (tc, td) {
--
--   give a (); }
--   thread a () {  } ends () {  } {
--   x = 0;
--
--   loop () { } from () {
--   loop () { } from () { if x = 1 { print z 1; next (); } else { break (); } } after () { }
--   next (); }
--   end ();
--   }
--   }

t8_machine : MachineTree
t8_machine =
    record {
      name = 0;
      fields = (record { name = 1; strategy = strategies.Variable; line = 2 }
          ∷ record { name = 3; strategy = strategies.Variable; line = 2 } ∷ []);
      ops = (record {
        name = 4;
        mode = modes.Init;
        params = ([]);
        steps = (record { act = acts.Init 0 (tree.Lit (pos 0)); line = 3 }
            ∷ record { act = acts.Init 1 (tree.Lit (pos 0)); line = 3 } ∷ []);
        line = 3;
      }
          ∷ record {
            name = 5;
            mode = modes.Transition;
            params = (88 ∷ []);
            steps = (record { act = acts.Update 0 (tree.Name 88); line = 4 } ∷ []);
            line = 4;
          } ∷ []);
      invariants = ([]);
    }

t8_program : ProgramTree
t8_program =
    record {
      decls =
          (p.Word (record { name = 7; len = 2; init = 0; names = ([]); clauses = ([]); fact = None; line = 6 }) ∷ []);
      start = Some
          (record {
            form =
                (record {
                  op = 0;
                  args = ([]);
                  tokens = ([]);
                  given = (8 ∷ 9 ∷ []);
                  label = None;
                  scripts = ([]);
                  line = 7;
                });
            steps = (record { what = p.Give 10 ([]) ([]); line = 9 } ∷ []);
            line = 7;
          });
      threads = (record {
        name = 10;
        takes = (record { names = ([]); lines = ([]); facts = ([]); line = 10 });
        ends = (record { names = ([]); lines = ([]); facts = ([]); line = 10 });
        body = (c.Do (p.Set 11 (calc.Plain (opd.Number 0)) None) 11
            (c.Loop (record { names = ([]); lines = ([]); facts = ([]); line = 13 })
            (record { args = ([]); scripts = ([]) }) 13
            (c.Loop (record { names = ([]); lines = ([]); facts = ([]); line = 14 })
            (record { args = ([]); scripts = ([]) }) 14
            (c.If (record {
              cond = record { left = (opd.Local 11); rel = rel.Eq; right = (opd.Number 1) };
              label = None;
            }) 14
            (c.On (p.Print 12 (opd.Number 1)) 14 (c.Next (record { args = ([]); scripts = ([]) }) 14 (c.Brace 14)))
            (c.Break (record { args = ([]); scripts = ([]) }) 14 (c.Brace 14)) None (c.Brace 14))
            (Some (record { names = ([]); lines = ([]); facts = ([]); line = 14 }))
            (c.Next (record { args = ([]); scripts = ([]) }) 15 (c.Brace 15))) None
            (c.End (record { args = ([]); scripts = ([]) }) 16 (c.Brace 17))));
        line = 10;
      } ∷ []);
      last = None;
    }

pub breaks_t8 : IsBroken rules.T8
unfolding t8_machine t8_program replaced replaced_in tree_size formula_size names_only form_names_only names form_names needs started_at updated_to act_slot facts_size
breaks_t8 =
    record { machine = t8_machine; program = t8_program; line = 13; breaks = refl }

-- ---- line 12 breaks T9

--   version 1;
--   machine Q { field c: variable;
--   init b() { init c = 5; } }
--   program {
--   word w[1] = 0 { }
--   start b() () -> (t) {
--   give a (); }
--   thread a () { } ends () { } {
--   x = load w[0];
--   if x = 1 { loop () { } from () {
--   x = load w[0];
--   meet (); } } else { meet (); } join () { }
--   end (); }
--   }

t9_machine : MachineTree
t9_machine =
    record {
      name = 0;
      fields = (record { name = 1; strategy = strategies.Variable; line = 2 } ∷ []);
      ops = (record {
        name = 3;
        mode = modes.Init;
        params = ([]);
        steps = (record { act = acts.Init 0 (tree.Lit (pos 5)); line = 3 } ∷ []);
        line = 3;
      } ∷ []);
      invariants = ([]);
    }

t9_program : ProgramTree
t9_program =
    record {
      decls =
          (p.Word (record { name = 4; len = 1; init = 0; names = ([]); clauses = ([]); fact = None; line = 5 }) ∷ []);
      start = Some
          (record {
            form =
                (record {
                  op = 0;
                  args = ([]);
                  tokens = ([]);
                  given = (5 ∷ []);
                  label = None;
                  scripts = ([]);
                  line = 6;
                });
            steps = (record { what = p.Give 6 ([]) ([]); line = 7 } ∷ []);
            line = 6;
          });
      threads = (record {
        name = 6;
        takes = (record { names = ([]); lines = ([]); facts = ([]); line = 8 });
        ends = (record { names = ([]); lines = ([]); facts = ([]); line = 8 });
        body = (c.On
            (p.Operate
            (record {
              op = (op.Load);
              local = (Some 7);
              word = 4;
              index = (record { operand = (opd.Number 0); scripts = ([]) });
              label = None;
            })
            (record { what = p.Still []; line = 9 } ∷ [])) 9
            (c.If (record {
              cond = record { left = (opd.Local 7); rel = rel.Eq; right = (opd.Number 1) };
              label = None;
            }) 10
            (c.Loop (record { names = ([]); lines = ([]); facts = ([]); line = 10 })
            (record { args = ([]); scripts = ([]) }) 10
            (c.On (p.Operate
            (record {
              op = (op.Load);
              local = (Some 7);
              word = 4;
              index = (record { operand = (opd.Number 0); scripts = ([]) });
              label = None;
            })
            (record { what = p.Still []; line = 11 } ∷ [])) 11
            (c.Meet (record { args = ([]); scripts = ([]) }) 12 (c.Brace 12))) None (c.Brace 12))
            (c.Meet (record { args = ([]); scripts = ([]) }) 12 (c.Brace 12))
            (Some (record { names = ([]); lines = ([]); facts = ([]); line = 12 }))
            (c.End (record { args = ([]); scripts = ([]) }) 13 (c.Brace 13))));
        line = 8;
      } ∷ []);
      last = None;
    }

pub breaks_t9 : IsBroken rules.T9
unfolding t9_machine t9_program replaced replaced_in tree_size formula_size names_only form_names_only names form_names needs started_at updated_to act_slot facts_size
breaks_t9 =
    record { machine = t9_machine; program = t9_program; line = 12; breaks = refl }

-- ---- line 7 breaks T10

--   version 1;
--   machine Q { field c: variable; field d: variable;
--   init b() { init c = 0; init d = 0; }
--   transition set(v) { update c = v; } }
--   program {
--   word w[1] = 0 { holds c (value); }
--   start b() () -> (tc, td) {
--    } }

t10_machine : MachineTree
t10_machine =
    record {
      name = 0;
      fields = (record { name = 1; strategy = strategies.Variable; line = 2 }
          ∷ record { name = 3; strategy = strategies.Variable; line = 2 } ∷ []);
      ops = (record {
        name = 4;
        mode = modes.Init;
        params = ([]);
        steps = (record { act = acts.Init 0 (tree.Lit (pos 0)); line = 3 }
            ∷ record { act = acts.Init 1 (tree.Lit (pos 0)); line = 3 } ∷ []);
        line = 3;
      }
          ∷ record {
            name = 5;
            mode = modes.Transition;
            params = (88 ∷ []);
            steps = (record { act = acts.Update 0 (tree.Name 88); line = 4 } ∷ []);
            line = 4;
          } ∷ []);
      invariants = ([]);
    }

t10_program : ProgramTree
t10_program =
    record {
      decls =
          (p.Word (record {
            name = 7;
            len = 1;
            init = 0;
            names = ([]);
            clauses = (record {
              shape = record { field = (Some 0); key = None; value = (Some (tree.Name 32)) };
              guard = None;
              line = 6;
            } ∷ []);
            fact = None;
            line = 6;
          }) ∷ []);
      start = Some
          (record {
            form =
                (record {
                  op = 0;
                  args = ([]);
                  tokens = ([]);
                  given = (8 ∷ 9 ∷ []);
                  label = None;
                  scripts = ([]);
                  line = 7;
                });
            steps = ([]);
            line = 7;
          });
      threads = ([]);
      last = None;
    }

pub breaks_t10 : IsBroken rules.T10
unfolding t10_machine t10_program replaced replaced_in tree_size formula_size names_only form_names_only names form_names needs started_at updated_to act_slot facts_size
breaks_t10 =
    record { machine = t10_machine; program = t10_program; line = 7; breaks = refl }
