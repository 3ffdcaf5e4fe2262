mod Wirings
