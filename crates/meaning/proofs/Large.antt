-- A sheet of some 3,000 bytes with 40 rules: the definitions read it in the checker in seconds.
use Prim.Native.Nat.{ℕ}
use mathlib.Core.Path.{◌≡◌, refl}
use mathlib.Core.List.{List, [], ◌∷◌, ◌++◌}
use lib.ListN.{length}
use Rattle.meaning.specs.Text.{text}
use Rattle.meaning.specs.Refusal.{Answer, taken, refused}
use Rattle.meaning.specs.Sheet.{leaves}
use Rattle.meaning.specs.Doors.{Accepted, read_sheet}
use Rattle.meaning.specs.Computing.{computing}

abbrev pub large : List ℕ
large =
    text "model=large\nfield=bureauanswer\nfield=field0\nfield=field1\nfield=field2\nfield=field3\nfield=field4\nfield=field5\nfield=field6\nfield=field7\n"
    ++ text "event=event0 field0 field4 field1\nevent=event1 field1 field5\n"
    ++ text "event=event2 field2 field6\nevent=event3 field3 field7\nstage=stage0\nstage=stage1\n"
    ++ text "stage=stage2\nstage=stage3 stage0\nstage=stage4 stage1\nstage=stage5 stage2\n"
    ++ text "mile=mile0\nmile=mile1\nmile=mile2\nmile=mile3\nmile=mile4\nmile=mile5\n"
    ++ text "mile=mile6\nmile=mile7\nmile=mile8\nmile=mile9\nmile=mile10\nmile=mile11\nmile=mile12\nmile=mile13\n"
    ++ text "rule=+mile0 on event0 if field0>0 and not (field3<=-1 or field5=0)\nrule=+mile1 on event1 if field1>100 and not (field4<=-2 or field6=1)\n"
    ++ text "rule=+mile2 on event2 if field2>200 and not (field5<=-3 or field7=2)\nrule=+mile3 on event3 if field3>300 and not (field6<=-4 or field0=3)\n"
    ++ text "rule=+mile4 on event0 if field4>400 and not (field7<=-5 or field1=4)\nrule=+mile5 on event1 if field5>500 and not (field0<=-6 or field2=5)\n"
    ++ text "rule=+mile6 on event2 if field6>600 and not (field1<=-7 or field3=6)\nrule=+mile7 on event3 if field7>700 and not (field2<=-8 or field4=7)\n"
    ++ text "rule=+mile8 on event0 if field0>800 and not (field3<=-9 or field5=8)\nrule=+mile9 on event1 if field1>900 and not (field4<=-10 or field6=9)\n"
    ++ text "rule=+mile10 on event2 if field2>1000 and not (field5<=-11 or field7=10)\n"
    ++ text "rule=+mile11 on event3 if field3>1100 and not (field6<=-12 or field0=11)\n"
    ++ text "rule=+mile12 on event0 if field4>1200 and not (field7<=-13 or field1=12)\n"
    ++ text "rule=+mile13 on event1 if field5>1300 and not (field0<=-14 or field2=13)\n"
    ++ text "rule=-mile0 on event1 if field0<0 or not field1>=1000000\nrule=-mile1 on event2 if field1<1 or not field2>=1000000\n"
    ++ text "rule=-mile2 on event3 if field2<2 or not field3>=1000000\nrule=-mile3 on event0 if field3<3 or not field4>=1000000\n"
    ++ text "rule=-mile4 on event1 if field4<4 or not field5>=1000000\nrule=-mile5 on event2 if field5<5 or not field6>=1000000\n"
    ++ text "rule=-mile6 on event3 if field6<6 or not field7>=1000000\nrule=-mile7 on event0 if field7<7 or not field0>=1000000\n"
    ++ text "rule=-mile8 on event1 if field0<8 or not field1>=1000000\nrule=-mile9 on event2 if field1<9 or not field2>=1000000\n"
    ++ text "rule=-mile10 on event3 if field2<10 or not field3>=1000000\nrule=-mile11 on event0 if field3<11 or not field4>=1000000\n"
    ++ text "rule=-mile12 on event1 if field4<12 or not field5>=1000000\nrule=-mile13 on event2 if field5<13 or not field6>=1000000\n"
    ++ text "rule=+stage0 if mile0 and not mile1 or field0>999999999\nrule=+stage1 if mile2 and not mile3 or field1>999999999\n"
    ++ text "rule=+stage2 if mile4 and not mile5 or field2>999999999\nrule=+stage3 if mile6 and not mile7 or field3>999999999\n"
    ++ text "rule=+stage4 if mile8 and not mile9 or field4>999999999\nrule=+stage5 if mile10 and not mile11 or field5>999999999\n"
    ++ text "rule=-stage0 on +mile1 if not (field0=1000000000 and mile12)\nrule=-stage1 on +mile3 if not (field1=1000000000 and mile12)\n"
    ++ text "rule=-stage2 on +mile5 if not (field2=1000000000 and mile12)\nrule=-stage3 on +mile7 if not (field3=1000000000 and mile12)\n"
    ++ text "rule=-stage4 on +mile9 if not (field4=1000000000 and mile12)\nrule=-stage5 on +mile11 if not (field5=1000000000 and mile12)\nend=40\n"

-- the bytes, rules, leaves and nodes of a sheet that is accepted
abbrev pub counted : Answer Accepted → List ℕ
counted (taken a) = length a.sheet.rules ∷ length (leaves a.sheet.rules) ∷ length a.order ∷ []
counted (refused n p l) = n ∷ p ∷ l ∷ []

pub large_read : length large ∷ counted (read_sheet large) ≡ 3006 ∷ 40 ∷ 100 ∷ 40 ∷ []
unfolding computing
large_read = refl
