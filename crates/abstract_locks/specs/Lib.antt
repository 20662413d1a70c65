pub mod LockScreens
